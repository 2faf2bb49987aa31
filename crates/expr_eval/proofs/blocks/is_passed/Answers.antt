use Rattle.std.proofs.Common.{◌+◌, ◌<◌, ◌+ℤ◌, ℕ, ℤ, pos, w64, sym, subst}
use Rattle.std.proofs.lemmas.Int.{to_z-of_z}
use Rattle.fixing_files.specs.Blocks.{no_block}
use Rattle.fixing_files.specs.RunPlaces.{IsOn}
use Rattle.expr_eval.proofs.PassFacts.{passes}
use Rattle.expr_eval.proofs.blocks.is_passed.Goals as goal

pub returns-then-cannot_meet : goal.returns-then-cannot_meet
returns-then-cannot_meet c =
    let run = c.args.run in
    let read = c.in-Some.ensures.lookup in
    let here = to_z-of_z w64 c.args.day c.ranges.day in
    λ same. passes c.args.watch run.days.now _ c.args.at c.args.day c.in-Some.block.now c.requires.numbers c.if-at-ne0.false read.3.0 (sym (read.3.1 no_block)) (c.cannot_meet.ensures c.if-cannot_meet.true)
    (subst (λ (t : ℤ). (i : ℕ) → i < 128 → IsOn run.days.now (t +ℤ pos i) (c.args.at + i)) here (c.stands_whole.ensures same))
