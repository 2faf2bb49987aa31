use Rattle.std.proofs.Common.{rules, pos}
use Rattle.term_model.specs.declared.values.Value.TheVariants.{Num}
use Rattle.expr_eval.proofs.WatchFacts.{stands_there}
use Rattle.expr_eval.proofs.sums.fixed_at.Goals as goal

pub returns-then-fixed-day : goal.returns-then-fixed-day
returns-then-fixed-day c =
    stands_there c.args.run.now c.args.at c.args.day (record { day = pos 0; value = Num (pos 0) }) (search rules) (search rules)
