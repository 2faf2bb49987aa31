use Rattle.std.proofs.Common.{◌∙◌, sym}
use Rattle.fixing_files.proofs.BlockFacts.{blocks_past, blocks_read}
use Rattle.fixing_files.proofs.blocks.blocks_lent.Goals as goal

pub returns-in-Some : goal.returns-in-Some
returns-in-Some c =
    let read = c.in-Some.ensures.lookup in
    c.deref.ensures.value ∙ sym (blocks_read c.args.blocks.now c.args.label c.in-Some.of_label.now read.3.0 (read.3.1 c.in-Some.of_label.now))

pub returns-in-None : goal.returns-in-None
returns-in-None c =
    let read = c.in-None.ensures.lookup in
    sym (blocks_past c.args.blocks.now c.args.label read.3)
