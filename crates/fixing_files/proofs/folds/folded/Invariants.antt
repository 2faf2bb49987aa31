use Rattle.std.proofs.Common.{take}
use Rattle.fixing_files.specs.Folds.{Folds}
use Rattle.fixing_files.proofs.folds.folded.Given as goal

abbrev pub invariant-loop-row : goal.invariant-loop-row
invariant-loop-row l = Folds (take l.row-index l.rows) l.folding.days.items l.folding.first l.folding.least
