-- The laws of a run's status, over its course.
use Rattle.std.proofs.Common.{◌≡◌, ◌∙◌, ◌≤◌, ◌⊎◌, inl, inr, ℕ, List, length, ap, arith, subst, sym}
use Rattle.std.specs.Prelude.{None}
use Rattle.report.specs.FaultLines.{fault_text}
use Rattle.report.specs.declared.fault_lines.Fault.{Fault}
use Rattle.report.specs.declared.fault_lines.Fault.TheVariants as fault
use Rattle.command_words.specs.Commands.{Request, files_of}
use Rattle.command_words.specs.Words.{request_of}
use Rattle.command_courses.specs.Course.{Answers, IsDue, Stops, Tells, stopped, told}
use Rattle.command_answers.specs.Courses.{course_of}
use Rattle.command_courses.specs.Statuses.{status_of}
use Rattle.command_courses.specs.declared.status.Status.{Status}
use Rattle.command_courses.specs.declared.status.Status.TheVariants as status
use Rattle.command_courses.proofs.CourseFacts.{answer_is_due, answers_stop, due_within, one_due, passed_is_told}
use Rattle.command_courses.proofs.CourseFacts.{OfCommand}
use Rattle.command_answers.proofs.SoundCourses.{sound_course}
use Rattle.command_courses.proofs.StageFacts.{none_or_some, some_same}
use Rattle.contract_cli.specs.Reading.{FileFault, WereRead, read_failed, read_long, reading}
use Rattle.contract_cli.specs.RunLaws.{AnswersHaveCauses, AreTold, AreWhole, Cause, no_form, unread, long, answered, DoneHasTold, IsNext}
use Rattle.contract_cli.specs.RunLaws.{IsReadWhole, IsTold, IsUndisturbed, IsWritten, ReadFaultIs, ReadFaultsHaveCauses, RunIsComplete, StatusesAreExact}
use Rattle.contract_cli.specs.RunLaws.{StatusesOverFilesAreExact, TooLongComes, TooLongHasACause, TooLongIs, UsageIsExact, UsageWritesItsLine, WriteFaultsHaveCauses}
use Rattle.contract_cli.specs.RunPromise.{Meets, written, broken, lacking, Names, run_course}
use Rattle.contract_cli.specs.Seen.{Edge, FilesSeen, WritesAll, longest_file}
use Rattle.contract_cli.proofs.RunFacts.{stops_reading}
use Rattle.contract_cli.proofs.RunSound.{Any, Behind, at_file, behind_files, due_behind, due_of_reading, file_of_stop, first_long_stops, first_long_told, sound_run}
use Rattle.contract_cli.proofs.RunSound.{stop_of_reading, told_long, told_of_reading, whole_at, whole_read, whole_told}

-- ---- every status

pub statuses_are_exact : StatusesAreExact
statuses_are_exact words edge s wanted (written text a w) calm no_memory =
    let course = run_course words edge.files in
    let sound = sound_run words edge.files calm.told in
    let due = answer_is_due Any course sound s text a in
    record {
      comes = λ h. inl (one_due Any course sound s wanted due h);
      only = λ is. (subst (λ (x : Status). IsDue course x) is due, (text, subst (λ (x : Status). Answers course x text) is a, w));
    }
statuses_are_exact words edge s wanted (broken e due text a w) calm no_memory = absurd (calm.no_write_fault w.0)
statuses_are_exact words edge s wanted (lacking e w) calm no_memory = record { comes = λ _. inr e; only = λ is. absurd (no_memory (sym is ∙ e)) }

pub run_is_complete : RunIsComplete
run_is_complete words edge s (written text a w) calm passed =
    inl (text, passed_is_told Any (run_course words edge.files) (sound_run words edge.files calm.told) passed s text a, w)
run_is_complete words edge s (broken e due text a w) calm passed = absurd (calm.no_write_fault w.0)
run_is_complete words edge s (lacking e w) calm passed = inr (e, w)

-- ---- causes

module _ (words : List (List ℕ)) (files : FilesSeen) (s : Status) (text : List ℕ) (request : Request) (named : Names words request) where
  by_fault : (f : Fault) (file : List ℕ) (place : ℕ) → IsNext words files file place → FileFault files file place f → s ≡ status_of f → text ≡ fault_text f
      → Cause words files s text
  by_fault f file place next (read_failed is rose) e line = unread file place next rose (e ∙ ap status_of is) (line ∙ ap fault_text is)
  by_fault f file place next (read_long is h) e line = long file place next h (e ∙ ap status_of is) (line ∙ ap fault_text is)

  by_stop : (f : Fault) → Behind files (files_of request) 1 (λ read. Stops (course_of request read) f) f → s ≡ status_of f → text ≡ fault_text f
      → Cause words files s text
  by_stop f (at_file h) e line =
      let at = file_of_stop files (files_of request) 1 f h in
      let next : IsNext words files at.file at.at = record {
        request = request;
        named = named;
        before = at.before;
        after = at.after;
        split = at.split;
        read = at.read;
        were = at.were;
        at = at.at_is;
      } in
      by_fault f at.file at.at next at.fault_is e line
  by_stop f (behind_files read were h) e line = answered request named read were (stopped f h e line)

pub answers_have_causes : AnswersHaveCauses
answers_have_causes words files s text (stopped f (inl h) e line) = no_form h.1 (e ∙ ap status_of h.0) (line ∙ ap fault_text h.0)
answers_have_causes words files s text (stopped f (inr h) e line) =
    by_stop words files s text h.0 h.1 f (stop_of_reading files (files_of h.0) 1 (course_of h.0) f h.2) e line
answers_have_causes words files s text (told h) =
    let rest = told_of_reading files (files_of h.0) 1 (course_of h.0) s text h.2 in
    answered h.0 h.1 rest.0 rest.1 (told rest.2)

-- what a command answers has a status of commands
of_command : (request : Request) (inputs : List (List ℕ)) (s : Status) (text : List ℕ) → Answers (course_of request inputs) s text → OfCommand s
of_command request inputs s text a =
    let sound = sound_course request inputs in
    due_within OfCommand (course_of request inputs) sound s (answer_is_due OfCommand (course_of request inputs) sound s text a)

-- ---- over files that are told and not too long

module _ (words : List (List ℕ)) (edge : Edge) (request : Request) (inputs : List (List ℕ)) (r : IsReadWhole words edge request inputs) where
  same_request : (other : Request) → Names words other → request ≡ other
  same_request other h = some_same request other (sym r.named ∙ h)

  calm : IsUndisturbed words edge
  calm = record {
    told = λ other h. subst (λ (x : Request). AreTold edge.files (files_of x)) (same_request other h) (whole_told edge.files (files_of request) inputs r.whole);
    no_write_fault = r.no_write_fault;
  }

  due_in_run : (s : Status) → IsDue (course_of request inputs) s → IsDue (run_course words edge.files) s
  due_in_run s h = inr (request, r.named, due_behind edge.files (files_of request) inputs 1 (course_of request) s r.whole h)

  due_of_run : (s : Status) → IsDue (run_course words edge.files) s → IsDue (course_of request inputs) s
  due_of_run s (inl h) = absurd (h.1 request r.named)
  due_of_run s (inr h) =
      due_of_reading edge.files (files_of request) inputs 1 (course_of request) s r.whole
      (subst (λ (x : Request). IsDue (reading edge.files (files_of x) 1 (course_of x)) s) (sym (same_request h.0 h.1)) h.2)

  -- a file of the words is told, and not too long
  next_whole : (file : List ℕ) (place : ℕ) → IsNext words edge.files file place → (bytes : List ℕ) × IsTold edge.files file bytes × (length bytes ≤ longest_file)
  next_whole file place next =
      let named = ap files_of (same_request next.request next.named) ∙ next.split in
      whole_at edge.files next.before file next.after inputs (subst (λ (xs : List (List ℕ)). AreWhole edge.files xs inputs) named r.whole)

  over_files : (s : Status) (text : List ℕ) → Cause words edge.files s text → Answers (course_of request inputs) s text
  over_files s text (no_form none e line) = absurd (none_or_some (request_of words) request none r.named)
  over_files s text (unread file place next rose e line) = absurd ((next_whole file place next).1.no_fault rose)
  over_files s text (long file place next h e line) =
      let told = next_whole file place next in
      let longer = told_long edge.files file told.0 h told.1 in
      let fits = told.2 in
      absurd (omega (arith, longer, fits))
  over_files s text (answered other named read were a) =
      let same = same_request other named in
      let here = subst (λ (x : Request). WereRead edge.files.contents (files_of x) read) (sym same) were in
      let all = whole_read edge.files (files_of request) inputs read r.whole here in
      subst (λ (xs : List (List ℕ)). Answers (course_of request xs) s text) all (subst (λ (x : Request). Answers (course_of x read) s text) (sym same) a)

  written_over : (wanted : Status) → IsWritten (run_course words edge.files) edge wanted → IsWritten (course_of request inputs) edge wanted
  written_over wanted h = (h.0, over_files wanted h.0 (answers_have_causes words edge.files wanted h.0 h.1), h.2)

pub statuses_over_files_are_exact : StatusesOverFilesAreExact
statuses_over_files_are_exact words edge s wanted request inputs m r no_memory =
    let exact = statuses_are_exact words edge s wanted m (calm words edge request inputs r) no_memory in
    record {
      comes = λ h. exact.comes (due_in_run words edge request inputs r wanted h);
      only = λ is. (due_of_run words edge request inputs r wanted (exact.only is).0, written_over words edge request inputs r wanted (exact.only is).1);
    }

-- the answer to files that are read whole is written, where memory is not wanting
pub whole_answer : (words : List (List ℕ)) (edge : Edge) (s : Status) (request : Request) (inputs : List (List ℕ)) → Meets words edge s → IsReadWhole words edge request inputs
    → IsWritten (course_of request inputs) edge s ⊎ (s ≡ status.NoMemory)
whole_answer words edge s request inputs (written text a w) r = inl (text, over_files words edge request inputs r s text (answers_have_causes words edge.files s text a), w)
whole_answer words edge s request inputs (broken e due text a w) r = absurd (r.no_write_fault w.0)
whole_answer words edge s request inputs (lacking e w) r = inr e

-- ---- usage

module _ (words : List (List ℕ)) (files : FilesSeen) (text : List ℕ) where
  usage_only : Cause words files status.Usage text → (request_of words ≡ None) × (text ≡ fault_text fault.Usage)
  usage_only (no_form none e line) = (none, line)
  usage_only (unread file place next rose e line) = absurd (let no : status.Usage ≡ status.ReadFault = e in cc)
  usage_only (long file place next h e line) = absurd (let no : status.Usage ≡ status.TooLong = e in cc)
  usage_only (answered request named inputs were a) = absurd (of_command request inputs status.Usage text a)

  usage_comes : (s : Status) → Cause words files s text → request_of words ≡ None → s ≡ status.Usage
  usage_comes s (no_form none e line) h = e
  usage_comes s (unread file place next rose e line) h = absurd (none_or_some (request_of words) next.request h next.named)
  usage_comes s (long file place next k e line) h = absurd (none_or_some (request_of words) next.request h next.named)
  usage_comes s (answered request named inputs were a) h = absurd (none_or_some (request_of words) request h named)

pub usage_is_exact : UsageIsExact
usage_is_exact words edge s (written text a w) succeed =
    let cause = answers_have_causes words edge.files s text a in
    record {
      comes = λ none. inl (usage_comes words edge.files text s cause none);
      only = λ is. (usage_only words edge.files text (subst (λ (x : Status). Cause words edge.files x text) is cause)).0;
    }
usage_is_exact words edge s (broken e due text a w) succeed = absurd (succeed w.0)
usage_is_exact words edge s (lacking e w) succeed =
    record { comes = λ none. inr e; only = λ is. absurd (let no : status.NoMemory ≡ status.Usage = sym e ∙ is in cc) }

-- ---- the line of a fault of words or of a file

by_line : (edge : Edge) (text line : List ℕ) → text ≡ line → WritesAll edge.sink text → WritesAll edge.sink line
by_line edge text line is w = subst (λ (t : List ℕ). WritesAll edge.sink t) is w

pub usage_writes_its_line : UsageWritesItsLine
usage_writes_its_line words edge (written text a w) =
    by_line edge text (fault_text fault.Usage) (usage_only words edge.files text (answers_have_causes words edge.files status.Usage text a)).1 w
usage_writes_its_line words edge (broken e due text a w) = absurd (let no : status.Usage ≡ status.WriteFault = e in cc)
usage_writes_its_line words edge (lacking e w) = absurd (let no : status.Usage ≡ status.NoMemory = e in cc)

module _ (words : List (List ℕ)) (edge : Edge) (text : List ℕ) (w : WritesAll edge.sink text) where
  read_fault : Cause words edge.files status.ReadFault text → ReadFaultIs words edge
  read_fault (no_form none e line) = absurd (let no : status.ReadFault ≡ status.Usage = e in cc)
  read_fault (unread file place next rose e line) = record { file = file; place = place; next = next; rose = rose; line = by_line edge text _ line w }
  read_fault (long file place next h e line) = absurd (let no : status.ReadFault ≡ status.TooLong = e in cc)
  read_fault (answered request named inputs were a) = absurd (of_command request inputs status.ReadFault text a)

  too_long : Cause words edge.files status.TooLong text → TooLongIs words edge
  too_long (no_form none e line) = absurd (let no : status.TooLong ≡ status.Usage = e in cc)
  too_long (unread file place next rose e line) = absurd (let no : status.TooLong ≡ status.ReadFault = e in cc)
  too_long (long file place next h e line) = record { file = file; place = place; next = next; long = h; line = by_line edge text _ line w }
  too_long (answered request named inputs were a) = absurd (of_command request inputs status.TooLong text a)

pub read_faults_have_causes : ReadFaultsHaveCauses
read_faults_have_causes words edge (written text a w) = read_fault words edge text w (answers_have_causes words edge.files status.ReadFault text a)
read_faults_have_causes words edge (broken e due text a w) = absurd (let no : status.ReadFault ≡ status.WriteFault = e in cc)
read_faults_have_causes words edge (lacking e w) = absurd (let no : status.ReadFault ≡ status.NoMemory = e in cc)

pub too_long_has_a_cause : TooLongHasACause
too_long_has_a_cause words edge (written text a w) = too_long words edge text w (answers_have_causes words edge.files status.TooLong text a)
too_long_has_a_cause words edge (broken e due text a w) = absurd (let no : status.TooLong ≡ status.WriteFault = e in cc)
too_long_has_a_cause words edge (lacking e w) = absurd (let no : status.TooLong ≡ status.NoMemory = e in cc)

pub too_long_comes : TooLongComes
too_long_comes words edge s request at (written text a w) succeed named h =
    let told = λ (other : Request) (k : Names words other).
    subst (λ (x : Request). AreTold edge.files (files_of x)) (some_same request other (sym named ∙ k)) (first_long_told edge.files (files_of request) 1 at h)
    in
    let stops = stops_reading edge.files (files_of request) 1 (course_of request) (fault.TooLong at) (first_long_stops edge.files (files_of request) 1 at h) in
    let is = answers_stop Any (run_course words edge.files) (sound_run words edge.files told) (fault.TooLong at) s text (inr (request, named, stops)) a in
    inl (is.0, by_line edge text (fault_text (fault.TooLong at)) is.1 w)
too_long_comes words edge s request at (broken e due text a w) succeed named h = absurd (succeed w.0)
too_long_comes words edge s request at (lacking e w) succeed named h = inr (e, w)

-- ---- writes

never_write_fault : (words : List (List ℕ)) (files : FilesSeen) (text : List ℕ) → Cause words files status.WriteFault text → ⊥
never_write_fault words files text (no_form none e line) = let no : status.WriteFault ≡ status.Usage = e in cc
never_write_fault words files text (unread file place next rose e line) = let no : status.WriteFault ≡ status.ReadFault = e in cc
never_write_fault words files text (long file place next h e line) = let no : status.WriteFault ≡ status.TooLong = e in cc
never_write_fault words files text (answered request named inputs were a) = of_command request inputs status.WriteFault text a

pub write_faults_have_causes : WriteFaultsHaveCauses
write_faults_have_causes words edge (written text a w) = absurd (never_write_fault words edge.files text (answers_have_causes words edge.files status.WriteFault text a))
write_faults_have_causes words edge (broken e due text a w) = w.0
write_faults_have_causes words edge (lacking e w) = absurd (let no : status.WriteFault ≡ status.NoMemory = e in cc)

-- ---- what a command has answered

-- the files of a command were read, and its answer to them was written
pub record Answered (edge : Edge) (request : Request) (s : Status) : Type 0 where
  pub inputs : List (List ℕ)
  pub read : WereRead edge.files.contents (files_of request) inputs
  pub text : List ℕ
  pub answers : Answers (course_of request inputs) s text
  pub line : WritesAll edge.sink text

-- so it is where the status is one that commands give
module _ (words : List (List ℕ)) (edge : Edge) (request : Request) (named : Names words request) (s : Status) (given : OfCommand s) where
  by_cause : (text : List ℕ) → Cause words edge.files s text → WritesAll edge.sink text → Answered edge request s
  by_cause text (no_form none e line) w = absurd (subst OfCommand e given)
  by_cause text (unread file place next rose e line) w = absurd (subst OfCommand e given)
  by_cause text (long file place next h e line) w = absurd (subst OfCommand e given)
  by_cause text (answered other is inputs were a) w =
      let same = some_same other request (sym is ∙ named) in
      record {
        inputs = inputs;
        read = subst (λ (x : Request). WereRead edge.files.contents (files_of x) inputs) same were;
        text = text;
        answers = subst (λ (x : Request). Answers (course_of x inputs) s text) same a;
        line = w;
      }

  pub answered_by : Meets words edge s → Answered edge request s
  answered_by (written text a w) = by_cause text (answers_have_causes words edge.files s text a) w
  answered_by (broken e due text a w) = absurd (subst OfCommand e given)
  answered_by (lacking e w) = absurd (subst OfCommand e given)

-- no fault has the status of the end
fault_not_done : (f : Fault) → status_of f ≡ status.Done → ⊥
fault_not_done fault.Usage e = let no : status.Usage ≡ status.Done = e in cc
fault_not_done (fault.Read place) e = let no : status.ReadFault ≡ status.Done = e in cc
fault_not_done (fault.TooLong place) e = let no : status.TooLong ≡ status.Done = e in cc
fault_not_done (fault.Text first) e = let no : status.BadText ≡ status.Done = e in cc
fault_not_done (fault.UnknownName name) e = let no : status.UnknownName ≡ status.Done = e in cc
fault_not_done (fault.Day word) e = let no : status.DayRange ≡ status.Done = e in cc
fault_not_done (fault.Refused name rule node) e = let no : status.Refused ≡ status.Done = e in cc
fault_not_done (fault.Row place row) e = let no : status.BadRow ≡ status.Done = e in cc
fault_not_done (fault.Missing label day) e = let no : status.Missing ≡ status.Done = e in cc
fault_not_done (fault.Scenarios count) e = let no : status.TooMany ≡ status.Done = e in cc
fault_not_done (fault.MissingIn label day scenario) e = let no : status.Missing ≡ status.Done = e in cc

done_told : (request : Request) (inputs : List (List ℕ)) (text : List ℕ) → Answers (course_of request inputs) status.Done text
    → Tells (course_of request inputs) status.Done text
done_told request inputs text (stopped f h e line) = absurd (fault_not_done f (sym e))
done_told request inputs text (told h) = h

pub done_has_told : DoneHasTold
done_has_told words edge request named m =
    let a = answered_by words edge request named status.Done tt m in
    record { inputs = a.inputs; read = a.read; text = a.text; told = done_told request a.inputs a.text a.answers; line = a.line }
