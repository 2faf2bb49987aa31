use Rattle.std.proofs.Common.{◌+◌, ◌-◌}
use Rattle.fixing_files.specs.Rows.{AreRuns, SameRows}
use Rattle.fixing_files.proofs.rows.reach.Given as goal

abbrev pub invariant-loop-alloc : goal.invariant-loop-alloc
invariant-loop-alloc l = AreRuns l.runs.items × SameRows l.fn.runs.items l.runs.items

abbrev pub decreases-loop-alloc : goal.decreases-loop-alloc
decreases-loop-alloc l = l.label + 1 - l.runs.len
