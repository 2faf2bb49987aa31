use Rattle.std.proofs.Common.{refl}
use Rattle.std.specs.Prelude.{None}
use Rattle.term_model.specs.Declarations.{declarations}
use Rattle.used_contracts.specs.ChoosingParts.{IsWalkedThrough, selection}
use Rattle.flow_commands.specs.FlowsParts.{HasFlows}
use Rattle.used_contracts.specs.ReadingParts.{IsNextOrEnd}
use Rattle.used_contracts.specs.Portfolios.{IsBadText}
use Rattle.used_contracts.specs.declared.choosing.Tried.{Tried}
use Rattle.flow_commands.specs.declared.flows.KeptFlows.{KeptFlows}
use Rattle.used_contracts.proofs.ReadingFacts.{end_is, next_is}
use Rattle.used_contracts.proofs.ChoosingFacts.{walked_none, walked_on, walked_through}
use Rattle.flow_commands.proofs.KeptFlowsFacts.{nothing_kept}
use Rattle.command_courses.proofs.StopFacts.{handed_on}
use Rattle.flow_commands.proofs.flows.flows_of_all.Goals as goal

pub loop-kept-init : goal.loop-kept-init
loop-kept-init c = λ text begun.
    let until = c.args.until.now in
    let kept : KeptFlows = record { listed = record { text = c.new.result; sum = c.new-2.result }; missing = None } in
    walked_none text (declarations until.choice.decls.now) (selection until.choice) (HasFlows until kept) c.args.reader.now c.nothing_tried-tried.result begun
    c.nothing_tried-tried.ensures.met c.nothing_tried-tried.ensures.refused (nothing_kept until kept refl c.new.ensures.items c.new-2.ensures)

pub add_next-requires-clause-sound : goal.add_next-requires-clause-sound
add_next-requires-clause-sound c =
    let text = c.requires.begun.0 in
    let d = declarations c.args.until.now.choice.decls.now in
    let h = c.loop-kept.invariant text c.requires.begun.1 in
    (next_is text d h.entries c.read_next.new.reader c.in_ok-next.field-0 c.in-Some.next c.in-Some.is (c.in_ok-next.ensures.next text h.entries h.read)).sound

pub returns-in_err-next : goal.returns-in_err-next
returns-in_err-next c = λ text begun.
    let d = declarations c.args.until.now.choice.decls.now in
    let h = c.loop-kept.invariant text begun in
    handed_on (IsNextOrEnd text d h.entries c.read_next.new.reader)
    (λ (all : Tried × KeptFlows). IsWalkedThrough text d (selection c.args.until.now.choice) (HasFlows c.args.until.now all.1) all.0) (IsBadText text) (IsBadText text) (λ f k. k)
    c.in_err-next.field-0.0 c.from_residual.result (c.in_err-next.ensures.next text h.entries h.read) c.from_residual.ensures.1

pub loop-kept-preserved : goal.loop-kept-preserved
loop-kept-preserved c = λ text begun.
    let d = declarations c.args.until.now.choice.decls.now in
    let until = c.args.until.now in
    let one = c.in-Some.next in
    let h = c.loop-kept.invariant text begun in
    let next = next_is text d h.entries c.read_next.new.reader c.in_ok-next.field-0 one c.in-Some.is (c.in_ok-next.ensures.next text h.entries h.read) in
    walked_on text d (selection until.choice) (HasFlows until c.loop-kept.kept) (HasFlows until c.add_next.new.kept) c.loop-kept.reader c.read_next.new.reader
    c.loop-kept.tried c.add_next.new.tried one h next c.in_ok-add_next.ensures

pub returns : goal.returns
returns c = λ text begun.
    let d = declarations c.args.until.now.choice.decls.now in
    let h = c.loop-kept.invariant text begun in
    walked_through text d (selection c.args.until.now.choice) (HasFlows c.args.until.now c.loop-kept.kept) c.loop-kept.reader c.loop-kept.tried h
    (end_is text d h.entries c.read_next.new.reader c.in_ok-next.field-0 c.in_default.not-Some (c.in_ok-next.ensures.next text h.entries h.read))
