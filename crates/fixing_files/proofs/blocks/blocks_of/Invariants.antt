use Rattle.std.proofs.Common.{◌≡◌, length}
use Rattle.fixing_files.specs.Blocks.{AreBlocks}
use Rattle.fixing_files.proofs.blocks.blocks_of.Given as goal

abbrev pub invariant-loop-at : goal.invariant-loop-at
invariant-loop-at l = (length l.blocks.items ≡ l.at) × AreBlocks l.blocks.items l.run
