-- How a run ends. A run is one course: its words, its files in their order, and the course of its command. It makes its whole
-- text first and then writes it: so it ends with the status of its text, which is written whole; or with a failed write of
-- that text; or it lacks memory and has written nothing.
use Rattle.std.specs.Prelude.{◌≡◌, ◌≢◌, ◌≤◌, ℕ, List, Some, None, IsSome}
use Rattle.std.specs.List.{All}
use Rattle.report.specs.declared.fault_lines.Fault.TheVariants as fault
use Rattle.command_words.specs.Commands.{Request, files_of}
use Rattle.command_words.specs.Words.{request_of}
use Rattle.command_courses.specs.Course.{Answers, Course, Stage, behind}
use Rattle.command_answers.specs.Courses.{course_of}
use Rattle.command_courses.specs.declared.status.Status.{Status}
use Rattle.command_courses.specs.declared.status.Status.TheVariants as status
use Rattle.contract_cli.specs.Reading.{reading}
use Rattle.contract_cli.specs.Seen.{Edge, FilesSeen, WritesAll, WritesNothing, WritesPart}

-- the words ask for this
abbrev pub Names : List (List ℕ) → Request → Type 0
Names words request = request_of words ≡ Some request

-- the words have a form
abbrev pub formed : List (List ℕ) → Stage Request
formed words = record {
  status = status.Usage;
  Passes = Names words;
  FaultIs = λ f. (f ≡ fault.Usage) × (request_of words ≡ None);
}

-- the course of a run: its words, its files, and what its command makes of their bytes
abbrev pub run_course : List (List ℕ) → FilesSeen → Course
run_course words files = behind (formed words) (λ request. reading files (files_of request) 1 (course_of request))

-- the words do not name a file
abbrev pub IsUnnamed : List (List ℕ) → List ℕ → Type 0
IsUnnamed words file = (request : Request) → Names words request → All (λ name. file ≢ name) (files_of request)

-- no count of faults falls, and that of a told file that the words do not name stays
pub record CountsOnlyBy (words : List (List ℕ)) (files : FilesSeen) : Type 0 where
  pub later : (file : List ℕ) → files.faults_before file ≤ files.faults_after file
  pub others : (file : List ℕ) → IsUnnamed words file → IsSome (files.contents file) → files.faults_after file ≡ files.faults_before file

-- how a run ends with a status
pub data Meets (words : List (List ℕ)) (edge : Edge) (s : Status) : Type 0 where
  written : (text : List ℕ) → Answers (run_course words edge.files) s text → WritesAll edge.sink text → Meets words edge s
  broken :
      s ≡ status.WriteFault → (due : Status) (text : List ℕ) → Answers (run_course words edge.files) due text → WritesPart edge.sink text
      → Meets words edge s
  lacking : s ≡ status.NoMemory → WritesNothing edge.sink → Meets words edge s
