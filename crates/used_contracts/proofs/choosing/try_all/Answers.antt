use Rattle.term_model.specs.Declarations.{declarations}
use Rattle.used_contracts.specs.ChoosingParts.{IsWalkedThrough, Nothing, selection}
use Rattle.used_contracts.specs.ReadingParts.{IsNextOrEnd}
use Rattle.used_contracts.specs.Portfolios.{IsBadText}
use Rattle.used_contracts.proofs.ReadingFacts.{end_is, next_is}
use Rattle.used_contracts.proofs.ChoosingFacts.{walked_none, walked_on, walked_through}
use Rattle.command_courses.proofs.StopFacts.{handed_on}
use Rattle.used_contracts.proofs.choosing.try_all.Goals as goal

pub loop-tried-init : goal.loop-tried-init
loop-tried-init c = λ text begun.
    walked_none text (declarations c.args.choice.now.decls.now) (selection c.args.choice.now) Nothing c.args.reader.now c.nothing_tried-tried.result begun
    c.nothing_tried-tried.ensures.met c.nothing_tried-tried.ensures.refused tt

pub try_on-requires : goal.try_on-requires
try_on-requires c =
    let text = c.requires.0 in
    let d = declarations c.args.choice.now.decls.now in
    let h = c.loop-tried.invariant text c.requires.1 in
    (next_is text d h.entries c.read_next.new.reader c.in_ok-next.field-0 c.in-Some.next c.in-Some.is (c.in_ok-next.ensures.next text h.entries h.read)).sound

pub returns-in_err-next : goal.returns-in_err-next
returns-in_err-next c = λ text begun.
    let d = declarations c.args.choice.now.decls.now in
    let h = c.loop-tried.invariant text begun in
    handed_on (IsNextOrEnd text d h.entries c.read_next.new.reader) (IsWalkedThrough text d (selection c.args.choice.now) Nothing) (IsBadText text) (IsBadText text) (λ f k. k)
    c.in_err-next.field-0.0 c.from_residual.result (c.in_err-next.ensures.next text h.entries h.read) c.from_residual.ensures.1

pub loop-tried-preserved : goal.loop-tried-preserved
loop-tried-preserved c = λ text begun.
    let d = declarations c.args.choice.now.decls.now in
    let s = selection c.args.choice.now in
    let one = c.in-Some.next in
    let h = c.loop-tried.invariant text begun in
    let next = next_is text d h.entries c.read_next.new.reader c.in_ok-next.field-0 one c.in-Some.is (c.in_ok-next.ensures.next text h.entries h.read) in
    walked_on text d s Nothing Nothing c.loop-tried.reader c.read_next.new.reader c.loop-tried.tried c.try_on.new.tried one h next c.in_ok-try_on.ensures

pub returns : goal.returns
returns c = λ text begun.
    let d = declarations c.args.choice.now.decls.now in
    let h = c.loop-tried.invariant text begun in
    walked_through text d (selection c.args.choice.now) Nothing c.loop-tried.reader c.loop-tried.tried h
    (end_is text d h.entries c.read_next.new.reader c.in_ok-next.field-0 c.in_default.not-Some (c.in_ok-next.ensures.next text h.entries h.read))
