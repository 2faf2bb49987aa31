-- Laws of a run's status, each said once for all commands: which status comes exactly where, in the order of the stages, and that a
-- run with nothing in its way writes the whole text of its command. An "exactly where" yields to want of memory, the one free
-- answer, and to a failed write of the text.
use Rattle.std.specs.Prelude.{◌≡◌, ◌≢◌, ◌≤◌, ◌<◌, ◌+◌, ◌⊎◌, ℕ, suc, List, [], ◌∷◌, ◌++◌, Some, None, length}
use Rattle.edge_io.specs.Counts.{Rose}
use Rattle.report.specs.FaultLines.{fault_text}
use Rattle.report.specs.declared.fault_lines.Fault.TheVariants as fault
use Rattle.command_words.specs.Commands.{Request, files_of}
use Rattle.command_words.specs.Words.{request_of}
use Rattle.command_courses.specs.Course.{Answers, Course, IsDue, IsPassed, Tells}
use Rattle.command_answers.specs.Courses.{course_of}
use Rattle.command_courses.specs.declared.status.Status.{Status}
use Rattle.command_courses.specs.declared.status.Status.TheVariants as status
use Rattle.contract_cli.specs.Reading.{WereRead}
use Rattle.contract_cli.specs.RunPromise.{Meets, Names, run_course}
use Rattle.contract_cli.specs.Seen.{Edge, Failed, FilesSeen, IsLong, WritesAll, WritesNothing, longest_file}

-- this status, or want of memory
abbrev pub IsOrNoMemory : Status → Status → Type 0
IsOrNoMemory wanted s = (s ≡ wanted) ⊎ (s ≡ status.NoMemory)

-- a status comes exactly where P, or memory is wanting
pub record ComesExactlyWhere (P : Type 0) (wanted s : Status) : Type 0 where
  pub comes : P → IsOrNoMemory wanted s
  pub only : s ≡ wanted → P

-- the sink failed in no write
abbrev pub WritesSucceed : Edge → Type 0
WritesSucceed edge = Rose edge.sink.faults_before edge.sink.faults_after → ⊥

-- the contents of a file are told, and no read of it failed
pub record IsTold (files : FilesSeen) (file bytes : List ℕ) : Type 0 where
  pub told : files.contents file ≡ Some bytes
  pub no_fault : Failed files file → ⊥

-- so of each file, as far as files are read: to the first that has more bytes than the limit
abbrev pub AreTold : FilesSeen → List (List ℕ) → Type 0
AreTold files [] = Unit {0}
AreTold files (file ∷ more) = (bytes : List ℕ) × IsTold files file bytes × (length bytes ≤ longest_file → AreTold files more)

-- the files that the words name are told, as far as they are read, and nothing failed
pub record IsUndisturbed (words : List (List ℕ)) (edge : Edge) : Type 0 where
  pub told : (request : Request) → Names words request → AreTold edge.files (files_of request)
  pub no_write_fault : WritesSucceed edge

-- ---- every status

-- the text of a course was written: the line of the fault that stops it, or what it tells
abbrev pub IsWritten : Course → Edge → Status → Type 0
IsWritten c edge s = (text : List ℕ) × Answers c s text × WritesAll edge.sink text

-- a status comes where it is due on a course, or memory is wanting; and only there, with its text
pub record IsExact (c : Course) (edge : Edge) (wanted s : Status) : Type 0 where
  pub comes : IsDue c wanted → IsOrNoMemory wanted s
  pub only : s ≡ wanted → IsDue c wanted × IsWritten c edge wanted

-- a status comes exactly where it is due: that of the first stage that passes nothing, or of the end
abbrev pub StatusesAreExact : Type 0
StatusesAreExact =
    (words : List (List ℕ)) (edge : Edge) (s wanted : Status)
    → Meets words edge s → IsUndisturbed words edge → wanted ≢ status.NoMemory
    → IsExact (run_course words edge.files) edge wanted s

-- where each stage passes, the whole text is written
abbrev pub RunIsComplete : Type 0
RunIsComplete =
    (words : List (List ℕ)) (edge : Edge) (s : Status)
    → Meets words edge s → IsUndisturbed words edge → IsPassed (run_course words edge.files)
    → ((text : List ℕ) × Tells (run_course words edge.files) s text × WritesAll edge.sink text)
    ⊎ ((s ≡ status.NoMemory) × WritesNothing edge.sink)

-- ---- files whose contents are told, none of them longer than the limit

-- the contents of files are told, no read of them failed, and none is longer than the limit
abbrev pub AreWhole : FilesSeen → List (List ℕ) → List (List ℕ) → Type 0
AreWhole files [] [] = Unit {0}
AreWhole files (file ∷ more) (bytes ∷ others) = IsTold files file bytes × (length bytes ≤ longest_file) × AreWhole files more others
AreWhole files _ _ = ⊥

-- so of the files of what the words ask for, and no write failed
pub record IsReadWhole (words : List (List ℕ)) (edge : Edge) (request : Request) (inputs : List (List ℕ)) : Type 0 where
  pub named : Names words request
  pub whole : AreWhole edge.files (files_of request) inputs
  pub no_write_fault : WritesSucceed edge

-- behind them a status comes exactly where it is due on the course of the command over their bytes
abbrev pub StatusesOverFilesAreExact : Type 0
StatusesOverFilesAreExact =
    (words : List (List ℕ)) (edge : Edge) (s wanted : Status) (request : Request) (inputs : List (List ℕ))
    → Meets words edge s → IsReadWhole words edge request inputs → wanted ≢ status.NoMemory
    → IsExact (course_of request inputs) edge wanted s

-- ---- what answers a run

-- the file at a place of the words, where those before it were read
pub record IsNext (words : List (List ℕ)) (files : FilesSeen) (file : List ℕ) (place : ℕ) : Type 0 where
  pub request : Request
  pub named : Names words request
  pub before : List (List ℕ)
  pub after : List (List ℕ)
  pub split : files_of request ≡ before ++ file ∷ after
  pub read : List (List ℕ)
  pub were : WereRead files.contents before read
  pub at : place ≡ 1 + length before

-- why a run has a status, and the text that it writes then: words of no form, or a file that was not read, each with the line of
-- its fault; or the named files were read, and this is what the command answers to their bytes
pub data Cause (words : List (List ℕ)) (files : FilesSeen) (s : Status) (text : List ℕ) : Type 0 where
  no_form : request_of words ≡ None → s ≡ status.Usage → text ≡ fault_text fault.Usage → Cause words files s text
  unread :
      (file : List ℕ) (place : ℕ) → IsNext words files file place → Failed files file
      → s ≡ status.ReadFault → text ≡ fault_text (fault.Read place) → Cause words files s text
  long :
      (file : List ℕ) (place : ℕ) → IsNext words files file place → IsLong files.contents file
      → s ≡ status.TooLong → text ≡ fault_text (fault.TooLong place) → Cause words files s text
  answered :
      (request : Request) → Names words request → (inputs : List (List ℕ)) → WereRead files.contents (files_of request) inputs
      → Answers (course_of request inputs) s text → Cause words files s text

-- what answers a run has a cause
abbrev pub AnswersHaveCauses : Type 0
AnswersHaveCauses =
    (words : List (List ℕ)) (files : FilesSeen) (s : Status) (text : List ℕ) → Answers (run_course words files) s text → Cause words files s text

-- a command that is done has read its files and told its text
pub record HasTold (words : List (List ℕ)) (edge : Edge) (request : Request) (s : Status) : Type 0 where
  pub inputs : List (List ℕ)
  pub read : WereRead edge.files.contents (files_of request) inputs
  pub text : List ℕ
  pub told : Tells (course_of request inputs) s text
  pub line : WritesAll edge.sink text

-- so every run that is done
abbrev pub DoneHasTold : Type 0
DoneHasTold =
    (words : List (List ℕ)) (edge : Edge) (request : Request)
    → Names words request → Meets words edge status.Done → HasTold words edge request status.Done

-- ---- usage, and the files

-- words of no form are a fault of usage, and no other words are
abbrev pub UsageIsExact : Type 0
UsageIsExact =
    (words : List (List ℕ)) (edge : Edge) (s : Status)
    → Meets words edge s → WritesSucceed edge → ComesExactlyWhere (request_of words ≡ None) status.Usage s

-- and they have just the line of that fault
abbrev pub UsageWritesItsLine : Type 0
UsageWritesItsLine = (words : List (List ℕ)) (edge : Edge) → Meets words edge status.Usage → WritesAll edge.sink (fault_text fault.Usage)

-- a read is at fault only where the count of a named file rose, whose place is the line's
pub record ReadFaultIs (words : List (List ℕ)) (edge : Edge) : Type 0 where
  pub file : List ℕ
  pub place : ℕ
  pub next : IsNext words edge.files file place
  pub rose : Failed edge.files file
  pub line : WritesAll edge.sink (fault_text (fault.Read place))

abbrev pub ReadFaultsHaveCauses : Type 0
ReadFaultsHaveCauses = (words : List (List ℕ)) (edge : Edge) → Meets words edge status.ReadFault → ReadFaultIs words edge

-- a file is too long only where it has more bytes than the limit, where its contents are told
pub record TooLongIs (words : List (List ℕ)) (edge : Edge) : Type 0 where
  pub file : List ℕ
  pub place : ℕ
  pub next : IsNext words edge.files file place
  pub long : IsLong edge.files.contents file
  pub line : WritesAll edge.sink (fault_text (fault.TooLong place))

abbrev pub TooLongHasACause : Type 0
TooLongHasACause = (words : List (List ℕ)) (edge : Edge) → Meets words edge status.TooLong → TooLongIs words edge

-- the first file with more bytes than the limit stands at a place; of those behind it nothing is said
abbrev pub IsFirstLong : FilesSeen → List (List ℕ) → ℕ → ℕ → Type 0
IsFirstLong files [] place at = ⊥
IsFirstLong files (file ∷ more) place at =
    (bytes : List ℕ) × IsTold files file bytes
    × (((longest_file < length bytes) × (at ≡ place)) ⊎ ((length bytes ≤ longest_file) × IsFirstLong files more (suc place) at))

-- and there it comes, with that place in its line
abbrev pub TooLongComes : Type 0
TooLongComes =
    (words : List (List ℕ)) (edge : Edge) (s : Status) (request : Request) (at : ℕ)
    → Meets words edge s → WritesSucceed edge → Names words request → IsFirstLong edge.files (files_of request) 1 at
    → ((s ≡ status.TooLong) × WritesAll edge.sink (fault_text (fault.TooLong at))) ⊎ ((s ≡ status.NoMemory) × WritesNothing edge.sink)

-- a write is at fault only where the count of the sink rose
abbrev pub WriteFaultsHaveCauses : Type 0
WriteFaultsHaveCauses =
    (words : List (List ℕ)) (edge : Edge) → Meets words edge status.WriteFault → Rose edge.sink.faults_before edge.sink.faults_after
