use Rattle.std.proofs.Common.{◌≡◌, ◌++◌, length}
use Rattle.std.specs.Vec.Iter.{into_iter_items, into_iter_len}
use Rattle.fixing_files.proofs.SettleFacts.{SettlesFront}
use Rattle.fixing_files.proofs.folds.settle_all.Given as goal

abbrev pub invariant-loop-label : goal.invariant-loop-label
invariant-loop-label l = (l.yielded ++ into_iter_items l.label-iterator ≡ l.fn.runs.items)
    × (into_iter_len l.label-iterator ≡ length (into_iter_items l.label-iterator))
    × SettlesFront l.yielded l.days.items l.least
