use Rattle.std.proofs.Common.{refl}
use Rattle.std.specs.Prelude.{None}
use Rattle.lifecycle_commands.specs.AdvanceParts.{HasRests, declared_to}
use Rattle.used_contracts.specs.ChoosingParts.{IsWalkedThrough, selection}
use Rattle.used_contracts.specs.ReadingParts.{IsNextOrEnd}
use Rattle.used_contracts.specs.Portfolios.{IsBadText}
use Rattle.lifecycle_commands.specs.declared.advance.KeptRest.{KeptRest}
use Rattle.used_contracts.specs.declared.choosing.Tried.{Tried}
use Rattle.lifecycle_commands.proofs.AdvanceFacts.{none_kept}
use Rattle.used_contracts.proofs.ReadingFacts.{end_is, next_is}
use Rattle.used_contracts.proofs.ChoosingFacts.{walked_none, walked_on, walked_through}
use Rattle.command_courses.proofs.StopFacts.{handed_on}
use Rattle.lifecycle_commands.proofs.advance.advance_all.Goals as goal

pub loop-kept-init : goal.loop-kept-init
loop-kept-init c = λ text begun.
    let to = c.args.to.now in
    let kept : KeptRest = record { left = c.in_ok-left.left; missing = None } in
    walked_none text (declared_to to) (selection to.choice) (HasRests to kept) c.args.reader.now c.nothing_tried-tried.result begun
    c.nothing_tried-tried.ensures.met c.nothing_tried-tried.ensures.refused (none_kept to kept refl c.in_ok-left.ensures)

pub advance_next-requires-clause-sound : goal.advance_next-requires-clause-sound
advance_next-requires-clause-sound c =
    let text = c.requires.begun.0 in
    let d = declared_to c.args.to.now in
    let h = c.loop-kept.invariant text c.requires.begun.1 in
    (next_is text d h.entries c.read_next.new.reader c.in_ok-next.field-0 c.in-Some.next c.in-Some.is (c.in_ok-next.ensures.next text h.entries h.read)).sound

pub returns-in_err-next : goal.returns-in_err-next
returns-in_err-next c = λ text begun.
    let to = c.args.to.now in
    let d = declared_to to in
    let h = c.loop-kept.invariant text begun in
    handed_on (IsNextOrEnd text d h.entries c.read_next.new.reader)
    (λ (all : Tried × KeptRest). IsWalkedThrough text d (selection to.choice) (HasRests to all.1) all.0) (IsBadText text) (IsBadText text) (λ f k. k)
    c.in_err-next.field-0.0 c.from_residual-in_err-next.result (c.in_err-next.ensures.next text h.entries h.read) c.from_residual-in_err-next.ensures.1

pub loop-kept-preserved : goal.loop-kept-preserved
loop-kept-preserved c = λ text begun.
    let to = c.args.to.now in
    let d = declared_to to in
    let one = c.in-Some.next in
    let h = c.loop-kept.invariant text begun in
    let next = next_is text d h.entries c.read_next.new.reader c.in_ok-next.field-0 one c.in-Some.is (c.in_ok-next.ensures.next text h.entries h.read) in
    walked_on text d (selection to.choice) (HasRests to c.loop-kept.kept) (HasRests to c.advance_next.new.kept) c.loop-kept.reader c.read_next.new.reader
    c.loop-kept.tried c.advance_next.new.tried one h next c.in_ok-advance_next.ensures

pub returns : goal.returns
returns c = λ text begun.
    let to = c.args.to.now in
    let d = declared_to to in
    let h = c.loop-kept.invariant text begun in
    walked_through text d (selection to.choice) (HasRests to c.loop-kept.kept) c.loop-kept.reader c.loop-kept.tried h
    (end_is text d h.entries c.read_next.new.reader c.in_ok-next.field-0 c.in_default.not-Some (c.in_ok-next.ensures.next text h.entries h.read))
