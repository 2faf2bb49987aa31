use Rattle.std.proofs.Common.{arith}
use Rattle.std.proofs.lemmas.List.{length-append}
use Rattle.fixing_files.proofs.BlockFacts.{one_more_block}
use Rattle.fixing_files.proofs.blocks.blocks_of.Goals as goal

pub loop-at-preserved : goal.loop-at-preserved
loop-at-preserved c =
    let blocks = c.loop-at.blocks.items in
    let at = c.loop-at.invariant in
    rw c.in_ok-push.ensures.items (
      simp length-append (omega (arith, at.0)),
      one_more_block blocks c.args.run.now c.loop-at.at c.block_of.result at.0 at.1 c.block_of.ensures (omega arith),
    )
