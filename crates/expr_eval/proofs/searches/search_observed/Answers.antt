use Rattle.std.proofs.Common.{rules, ◌≡◌, ◌+ℤ◌, w64, to_z, of_z}
use Rattle.expr_eval.specs.Searches.{IsFlagStop}
use Rattle.expr_eval.proofs.WatchFacts.{flag_stops, stop_too}
use Rattle.expr_eval.proofs.searches.search_observed.Goals as goal

pub returns : goal.returns
returns c =
    let first : to_z w64 (of_z w64 c.day_read.result) ≡ c.args.from +ℤ c.args.offset = search rules in
    stop_too c.first_met.result _ (λ s. IsFlagStop c.args.label c.args.offset c.args.wanted c.args.fixings.now c.args.from c.args.days s)
    (λ s is. flag_stops c.args.label c.args.offset c.args.wanted c.args.fixings.now c.args.from (to_z w64 (of_z w64 c.day_read.result)) c.args.days s first is)
    c.first_met.ensures
