-- The bytes of a command's files have one answer, a status and a text.
use Rattle.std.proofs.Common.{◌≡◌}
use Rattle.command_courses.proofs.CourseFacts.{OfCommand, one_status, one_text}
use Rattle.command_answers.specs.AnswerLaws.{AnswersAreOne, SummariesAreOne}
use Rattle.command_answers.specs.Courses.{course_of}
use Rattle.command_answers.proofs.OneSummary.{one_summary}
use Rattle.command_answers.proofs.OneTold.{one_told}
use Rattle.command_answers.proofs.SoundCourses.{sound_course}

pub answers_are_one : AnswersAreOne
answers_are_one request inputs s t one other h k =
    let course = course_of request inputs in
    let sound = sound_course request inputs in (
      one_status OfCommand course sound s t one other h k,
      one_text OfCommand course sound s t one other (one ≡ other) (λ same. same) (one_told request inputs s t one other) h k,
    )

pub summaries_are_one : SummariesAreOne
summaries_are_one = one_summary
