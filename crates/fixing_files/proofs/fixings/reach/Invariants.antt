use Rattle.std.proofs.Common.{◌≡◌, ℕ, ◌+◌, ◌-◌}
use Rattle.fixing_files.specs.Runs.{AreRising, run_at, values_of}
use Rattle.fixing_files.proofs.fixings.reach.Given as goal

abbrev pub invariant-loop-alloc : goal.invariant-loop-alloc
invariant-loop-alloc l =
    AreRising l.runs.items × (values_of l.runs.items ≡ values_of l.fn.runs.items)
    × ((k : ℕ) → run_at l.runs.items k ≡ run_at l.fn.runs.items k)

abbrev pub decreases-loop-alloc : goal.decreases-loop-alloc
decreases-loop-alloc l = l.label + 1 - l.runs.len
