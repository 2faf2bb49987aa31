use Rattle.std.proofs.Common.{◌<◌, ◌∙◌, length, arith}
use Rattle.fixing_files.proofs.BlockFacts.{blocks_here, blocks_past, blocks_there}
use Rattle.fixing_files.proofs.blocks.drop_blocks.Goals as goal

pub returns-then-label-len-clause-dropped : goal.returns-then-label-len-clause-dropped
returns-then-label-len-clause-dropped c =
    let within : c.args.label < length c.args.blocks.now.items = omega (arith, c.args.blocks.now.ok.0) in
    blocks_here c.args.blocks.now.items c.args.label c.clear.new.self within ∙ c.clear.ensures.items

pub returns-then-label-len-clause-kept : goal.returns-then-label-len-clause-kept
returns-then-label-len-clause-kept c = blocks_there c.args.blocks.now.items c.args.label c.clear.new.self

pub returns-else-label-len-clause-dropped : goal.returns-else-label-len-clause-dropped
returns-else-label-len-clause-dropped c =
    blocks_past c.args.blocks.now.items c.args.label (omega (arith, c.args.blocks.now.ok.0))
