use Rattle.std.proofs.Common.{inl}
use Rattle.text_commands.specs.CheckCourse.{check_course}
use Rattle.text_commands.specs.CheckParts.{AreTextVerdicts}
use Rattle.text_commands.specs.CheckPromise.{Verdict}
use Rattle.command_courses.specs.Course.{Stops, Tells}
use Rattle.command_courses.specs.Inputs.{bytes_of, file_at}
use Rattle.used_contracts.specs.Portfolios.{IsBadText}
use Rattle.command_courses.specs.declared.answer.Answer.{Answer}
use Rattle.text_commands.proofs.CheckFacts.{lines_all, verdict_done, verdict_refused}
use Rattle.command_courses.proofs.StopFacts.{handed_on}
use Rattle.text_commands.proofs.check.check_text.Goals as goal
use Rattle.text_commands.proofs.check.check_text.Goals.{then-check, else-check}

pub returns-in_err-check : goal.returns-in_err-check
returns-in_err-check c =
    let inputs = bytes_of c.args.inputs.files.now in
    let text = file_at inputs 0 in
    let course = check_course inputs in
    handed_on (AreTextVerdicts text) (λ (answer : Answer). Tells course answer.status answer.text.items) (IsBadText text) (Stops course) (λ f h. inl h)
    c.in_err-check.field-0.0 c.from_residual.result c.in_err-check.ensures c.from_residual.ensures.1

pub returns : goal.returns
returns c =
    let check = c.in_ok-check.check in
    let is = c.in_ok-check.ensures in
    let b = is.of in
    let all = check.all_accepted in
    let text = check.text.items in
    let verdict : Verdict b c.if-check.status = elim c.if-check.branch [
      | then-check w ↦ verdict_done b all text is.verdicts c.if-check.status w.if-check.true w.status-is
      | else-check w ↦ verdict_refused b all text is.verdicts c.if-check.status w.if-check.false w.status-is
    ] in
    (b, is.is_text, (verdict, lines_all b all text is.verdicts))
