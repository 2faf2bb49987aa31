-- Laws of answers: that the bytes of a command's files have one.
use Rattle.std.specs.Prelude.{◌≡◌, ℕ, List}
use Rattle.sample.specs.Summary.{IsSummary}
use Rattle.command_words.specs.Commands.{Request}
use Rattle.command_courses.specs.Course.{Answers}
use Rattle.command_courses.specs.declared.status.Status.{Status}
use Rattle.command_answers.specs.Courses.{course_of}

-- the bytes of the files of a command have one answer, a status and a text
abbrev pub AnswersAreOne : Type 0
AnswersAreOne =
    (request : Request) (inputs : List (List ℕ)) (s t : Status) (one other : List ℕ)
    → Answers (course_of request inputs) s one → Answers (course_of request inputs) t other → (s ≡ t) × (one ≡ other)

-- the sample of so many contracts has one summary
abbrev pub SummariesAreOne : Type 0
SummariesAreOne = (count : ℕ) (one other : List ℕ) → IsSummary count one → IsSummary count other → one ≡ other
