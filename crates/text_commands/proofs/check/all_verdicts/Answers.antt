use Rattle.std.proofs.Common.{true, [], refl}
use Rattle.term_model.specs.Declarations.{declarations}
use Rattle.text_commands.specs.CheckParts.{AreTextVerdicts}
use Rattle.used_contracts.specs.ReadingParts.{IsNextOrEnd}
use Rattle.used_contracts.specs.Portfolios.{IsBadText}
use Rattle.text_commands.proofs.CheckFacts.{all_of_text, more_of_text, verdicts_none}
use Rattle.used_contracts.proofs.ReadingFacts.{end_is, next_is}
use Rattle.command_courses.proofs.StopFacts.{handed_on}
use Rattle.text_commands.proofs.check.all_verdicts.Goals as goal

pub loop-check-init : goal.loop-check-init
loop-check-init c = λ text begun. record { entries = []; read = begun; verdicts = verdicts_none (declarations c.args.decls.now) (record { text = c.new.result; all_accepted = true }) refl c.new.ensures.items }

pub add_verdict-requires-clause-sound : goal.add_verdict-requires-clause-sound
add_verdict-requires-clause-sound c =
    let text = c.requires.begun.0 in
    let h = c.loop-check.invariant text c.requires.begun.1 in
    (next_is text (declarations c.args.decls.now) h.entries c.read_next.new.reader c.in_ok-next.field-0 c.in-Some.next c.in-Some.is (c.in_ok-next.ensures.next text h.entries h.read)).sound

pub returns-in_err-next : goal.returns-in_err-next
returns-in_err-next c = λ text begun.
    let h = c.loop-check.invariant text begun in
    handed_on (IsNextOrEnd text (declarations c.args.decls.now) h.entries c.read_next.new.reader) (AreTextVerdicts text) (IsBadText text) (IsBadText text) (λ f k. k)
    c.in_err-next.field-0.0 c.from_residual.result (c.in_err-next.ensures.next text h.entries h.read) c.from_residual.ensures.1

pub loop-check-preserved : goal.loop-check-preserved
loop-check-preserved c = λ text begun.
    let d = declarations c.args.decls.now in
    let h = c.loop-check.invariant text begun in
    let next = next_is text d h.entries c.read_next.new.reader c.in_ok-next.field-0 c.in-Some.next c.in-Some.is (c.in_ok-next.ensures.next text h.entries h.read) in
    more_of_text text d c.loop-check.reader c.read_next.new.reader c.loop-check.check c.add_verdict.new.check c.in-Some.next h next c.in_ok-add_verdict.ensures

pub returns : goal.returns
returns c = λ text begun.
    let d = declarations c.args.decls.now in
    let h = c.loop-check.invariant text begun in
    all_of_text text d c.loop-check.reader c.loop-check.check h
    (end_is text d h.entries c.read_next.new.reader c.in_ok-next.field-0 c.in_default.not-Some (c.in_ok-next.ensures.next text h.entries h.read))
