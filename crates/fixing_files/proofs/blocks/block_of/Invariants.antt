use Rattle.std.proofs.Common.{ℕ, ◌<◌}
use Rattle.fixing_files.specs.Blocks.{IsWithin, number_at}
use Rattle.fixing_files.proofs.blocks.block_of.Given as goal

abbrev pub invariant-loop-fixed : goal.invariant-loop-fixed
invariant-loop-fixed l = (i : ℕ) → i < l.fixed-index → IsWithin (record { low = l.low; high = l.high }) (number_at l.days i)
