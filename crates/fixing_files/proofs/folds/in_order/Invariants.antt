use Rattle.fixing_files.proofs.SettleFacts.{AreJoined}
use Rattle.fixing_files.proofs.folds.in_order.Given as goal

abbrev pub invariant-loop-at : goal.invariant-loop-at
invariant-loop-at l = AreJoined l.fn.run.days.items l.fn.run.numbers.items l.fn.run.late.items l.at l.rows.items
