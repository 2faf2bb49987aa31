use Rattle.std.proofs.Common.{rules, pos}
use Rattle.term_model.specs.declared.values.Value.TheVariants.{Num}
use Rattle.expr_eval.proofs.WatchFacts.{met_there}
use Rattle.expr_eval.proofs.watches.met_near.Goals as goal

pub returns-then-fixed-day : goal.returns-then-fixed-day
returns-then-fixed-day c =
    met_there c.args.watch c.args.fixings.now c.args.run.now c.args.at c.args.day (record { day = pos 0; value = Num (pos 0) }) c.in_ok-is_met.field-0 c.requires (search rules) (search rules) (search rules)
