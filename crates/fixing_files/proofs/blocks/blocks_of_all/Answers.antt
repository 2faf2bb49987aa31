use Rattle.std.proofs.Common.{List, subst, arith}
use Rattle.std.proofs.lemmas.List.{length-append}
use Rattle.fixing_files.specs.Blocks.{AreBlocks}
use Rattle.fixing_files.specs.declared.runs.FixedDay.{FixedDay}
use Rattle.fixing_files.proofs.BlockFacts.{one_more_label}
use Rattle.fixing_files.proofs.blocks.blocks_of_all.Goals as goal

pub loop-run-preserved : goal.loop-run-preserved
loop-run-preserved c =
    let runs = c.args.runs.now in
    let of = c.in_ok-blocks_of.field-0 in
    let run = c.run-item.result in
    let is = c.run-item.is in
    let are : AreBlocks of.items run.items = subst (λ (days : List FixedDay). AreBlocks of.items days) c.deref.ensures.value c.in_ok-blocks_of.ensures in
    let at = c.loop-run.invariant in
    rw c.in_ok-push.ensures.items (
      simp length-append (omega (arith, at.0)),
      one_more_label c.loop-run.blocks.items runs c.loop-run.run-index of run at.0 at.1 c.loop-run-test.true is are,
    )
