use Rattle.std.proofs.Common.{rules, ◌≡◌, ◌+ℤ◌, w64, to_z, of_z}
use Rattle.expr_eval.specs.Evaluations.{comparison_over}
use Rattle.expr_eval.specs.Searches.{IsStop}
use Rattle.expr_eval.proofs.WatchFacts.{stop_too, watch_stops}
use Rattle.expr_eval.proofs.searches.search_compared.Goals as goal

pub returns : goal.returns
returns c =
    let e = comparison_over c.args.op c.args.left.now c.args.right.now in
    let first : to_z w64 (of_z w64 c.day_read.result) ≡ c.args.from +ℤ c.in_ok-watch.watch.offset = search rules in
    stop_too c.first_met.result _ (λ s. IsStop c.args.decls.now e c.args.wanted c.args.names.now c.args.fixings.now c.args.from c.args.days s)
    (λ s is. watch_stops c.args.decls.now e c.args.wanted c.args.names.now c.in_ok-watch.watch c.args.fixings.now c.args.from (to_z w64 (of_z w64 c.day_read.result)) c.args.days s c.in_ok-watch.ensures first is)
    c.first_met.ensures
