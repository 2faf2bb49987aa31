use Rattle.std.proofs.Common.{◌≡◌, length}
use Rattle.fixing_files.specs.Blocks.{AreBlocksOf}
use Rattle.fixing_files.proofs.blocks.blocks_of_all.Given as goal

abbrev pub invariant-loop-run : goal.invariant-loop-run
invariant-loop-run l = (length l.blocks.items ≡ l.run-index) × AreBlocksOf l.blocks.items l.runs
