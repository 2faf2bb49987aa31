use Rattle.std.proofs.Common.{take}
use Rattle.report.specs.RunningSums.{IsSumSoFar}
use Rattle.report.proofs.sums.net.Given as goal

abbrev pub invariant-loop-table : goal.invariant-loop-table
invariant-loop-table l = IsSumSoFar (take l.table-index l.tables) l.sum
