use Rattle.std.proofs.Common.{◌++◌, take}
use Rattle.fixing_files.specs.Layers.{HoldSame}
use Rattle.scenario_set.specs.Scenarios.{rows_held}
use Rattle.scenario_set.proofs.scenarios.add_all.Given as goal

abbrev pub invariant-loop-row : goal.invariant-loop-row
invariant-loop-row l = HoldSame l.few (l.initial.few ++ rows_held (take l.row-index l.rows))
