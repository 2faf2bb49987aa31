-- The course of a run is sound, and gives the statuses of its stages, where the files that it reads are told.
use Rattle.std.proofs.Common.{◌≡◌, ◌∙◌, ◌≤◌, ◌<◌, ◌+◌, inl, inr, ℕ, suc, List, [], ◌∷◌, ◌++◌, length, ap, arith, refl, subst, sym}
use Rattle.std.specs.Prelude.{Option, Some, IfSome}
use Rattle.report.specs.declared.fault_lines.Fault.{Fault}
use Rattle.report.specs.declared.fault_lines.Fault.TheVariants as fault
use Rattle.command_words.specs.Commands.{Request, files_of}
use Rattle.command_words.specs.Words.{request_of}
use Rattle.command_courses.specs.Course.{Course, IsDue, Stops, Tells, behind}
use Rattle.command_answers.specs.Courses.{course_of}
use Rattle.command_courses.specs.Inputs.{file_at}
use Rattle.command_courses.specs.Statuses.{status_of}
use Rattle.command_courses.specs.declared.status.Status.{Status}
use Rattle.command_courses.proofs.CourseFacts.{IsStage, Sound, alike_next, sound_more}
use Rattle.command_courses.proofs.CourseFacts.{OfCommand}
use Rattle.command_answers.proofs.SoundCourses.{sound_course}
use Rattle.command_courses.proofs.StageFacts.{none_or_some, some_same}
use Rattle.contract_cli.specs.Reading.{FileFault, read_failed, read_long, StopsReading, WereRead, fitting, opened, reading}
use Rattle.contract_cli.specs.RunLaws.{AreTold, AreWhole, IsFirstLong, IsTold}
use Rattle.contract_cli.specs.RunPromise.{Names, formed, run_course}
use Rattle.contract_cli.specs.Seen.{FilesSeen, IsLong, WasRead, longest_file}

-- ---- a file whose contents are told

pub same_bytes : (contents : List ℕ → Option (List ℕ)) (file read all : List ℕ) → WasRead contents file read → contents file ≡ Some all → read ≡ all
same_bytes contents file read all w told = subst (λ (o : Option (List ℕ)). IfSome o (λ xs. read ≡ xs)) told w.told

pub told_long : (files : FilesSeen) (file all : List ℕ) → IsLong files.contents file → IsTold files file all → longest_file < length all
told_long files file all h t = subst (λ (o : Option (List ℕ)). IfSome o (λ xs. longest_file < length xs)) t.told h

pub long_told : (files : FilesSeen) (file all : List ℕ) → longest_file < length all → IsTold files file all → IsLong files.contents file
long_told files file all h t = subst (λ (o : Option (List ℕ)). IfSome o (λ xs. longest_file < length xs)) (sym t.told) h

pub told_read : (files : FilesSeen) (file all : List ℕ) → length all ≤ longest_file → IsTold files file all → WasRead files.contents file all
told_read files file all h t = record { told = subst (λ (o : Option (List ℕ)). IfSome o (λ xs. all ≡ xs)) (sym t.told) refl; fits = h }

pub told_fits : (files : FilesSeen) (file read all : List ℕ) → WasRead files.contents file read → IsTold files file all → length all ≤ longest_file
told_fits files file read all w t = subst (λ (xs : List ℕ). length xs ≤ longest_file) (same_bytes files.contents file read all w t.told) w.fits

long_or_read : (files : FilesSeen) (file read all : List ℕ) → IsTold files file all → WasRead files.contents file read → IsLong files.contents file → ⊥
long_or_read files file read all t w h =
    let long = told_long files file all h t in
    let fits = told_fits files file read all w t in
    omega (arith, long, fits)

abbrev pub Any : Status → Type 0
Any s = Unit {0}

-- ---- the stages

opened_is : (files : FilesSeen) (file : List ℕ) (place : ℕ) (all : List ℕ) → IsTold files file all → IsStage (Unit {0}) (opened files file place)
opened_is files file place all t = record {
  excludes = λ a f p h. t.no_fault h.1;
  one_fault = λ f g h k. h.0 ∙ sym k.0;
  status_is = λ f h. ap status_of h.0;
}

fitting_is : (files : FilesSeen) (file : List ℕ) (place : ℕ) (all : List ℕ) → IsTold files file all → IsStage (List ℕ) (fitting files file place)
fitting_is files file place all t = record {
  excludes = λ bytes f p h. long_or_read files file bytes all t p h.1;
  one_fault = λ f g h k. h.0 ∙ sym k.0;
  status_is = λ f h. ap status_of h.0;
}

pub sound_reading : (files : FilesSeen) (names : List (List ℕ)) (place : ℕ) (next : List (List ℕ) → Course) → AreTold files names → ((read : List (List ℕ)) → Sound Any (next read))
    → Sound Any (reading files names place next)
sound_reading files [] place next t sound = sound []
sound_reading files (file ∷ more) place next t sound = (
  tt,
  opened_is files file place t.0 t.1,
  λ a b p q. alike_next (Unit {0}) (λ _. behind (fitting files file place) (λ bytes. reading files more (suc place) (λ others. next (bytes ∷ others)))) tt tt refl,
  λ a p. (
    tt,
    fitting_is files file place t.0 t.1,
    λ one other h k. alike_next (List ℕ) (λ bytes. reading files more (suc place) (λ others. next (bytes ∷ others))) one other
        (same_bytes files.contents file one t.0 h t.1.told ∙ sym (same_bytes files.contents file other t.0 k t.1.told)),
    λ bytes h. sound_reading files more (suc place) (λ others. next (bytes ∷ others)) (t.2 (told_fits files file bytes t.0 h t.1)) (λ others. sound (bytes ∷ others)),
  ),
)

formed_is : (words : List (List ℕ)) → IsStage Request (formed words)
formed_is words = record {
  excludes = λ request f p h. none_or_some (request_of words) request h.1 p;
  one_fault = λ f g h k. h.0 ∙ sym k.0;
  status_is = λ f h. ap status_of h.0;
}

pub sound_run : (words : List (List ℕ)) (files : FilesSeen) → ((request : Request) → Names words request → AreTold files (files_of request))
    → Sound Any (run_course words files)
sound_run words files t = (
  tt,
  formed_is words,
  λ a b p q. alike_next Request (λ request. reading files (files_of request) 1 (course_of request)) a b (some_same a b (sym p ∙ q)),
  λ request p. sound_reading files (files_of request) 1 (course_of request) (t request p) (λ inputs. sound_more OfCommand Any (λ s h. tt) (course_of request inputs) (sound_course request inputs)),
)

-- ---- what stops the reading, and what stops behind it

pub data Behind (files : FilesSeen) (names : List (List ℕ)) (place : ℕ) (P : List (List ℕ) → Type 0) (f : Fault) : Type 0 where
  at_file : StopsReading files names place f → Behind files names place P f
  behind_files : (read : List (List ℕ)) → WereRead files.contents names read → P read → Behind files names place P f

one_more : (files : FilesSeen) (file : List ℕ) (more : List (List ℕ)) (place : ℕ) (next : List (List ℕ) → Course) (f : Fault) (bytes : List ℕ) → WasRead files.contents file bytes
    → Behind files more (suc place) (λ others. Stops (next (bytes ∷ others)) f) f → Behind files (file ∷ more) place (λ read. Stops (next read) f) f
one_more files file more place next f bytes w (at_file k) = at_file (inr (bytes, w, k))
one_more files file more place next f bytes w (behind_files others k p) = behind_files (bytes ∷ others) (w, k) p

pub stop_of_reading : (files : FilesSeen) (names : List (List ℕ)) (place : ℕ) (next : List (List ℕ) → Course) (f : Fault) → Stops (reading files names place next) f
    → Behind files names place (λ read. Stops (next read) f) f
stop_of_reading files [] place next f h = behind_files [] tt h
stop_of_reading files (file ∷ more) place next f (inl h) = at_file (inl (read_failed h.0 h.1))
stop_of_reading files (file ∷ more) place next f (inr (a, p, inl k)) = at_file (inl (read_long k.0 k.1))
stop_of_reading files (file ∷ more) place next f (inr (a, p, inr k)) =
    one_more files file more place next f k.0 k.1 (stop_of_reading files more (suc place) (λ others. next (k.0 ∷ others)) f k.2)

pub told_of_reading : (files : FilesSeen) (names : List (List ℕ)) (place : ℕ) (next : List (List ℕ) → Course) (s : Status) (text : List ℕ) → Tells (reading files names place next) s text
    → (read : List (List ℕ)) × WereRead files.contents names read × Tells (next read) s text
told_of_reading files [] place next s text h = ([], tt, h)
told_of_reading files (file ∷ more) place next s text h =
    let rest = told_of_reading files more (suc place) (λ others. next (h.2.0 ∷ others)) s text h.2.2 in
    (h.2.0 ∷ rest.0, (h.2.1, rest.1), rest.2)

-- the file at which the reading stops
pub record StopsAtFile (files : FilesSeen) (names : List (List ℕ)) (place : ℕ) (f : Fault) : Type 0 where
  pub file : List ℕ
  pub at : ℕ
  pub before : List (List ℕ)
  pub after : List (List ℕ)
  pub split : names ≡ before ++ file ∷ after
  pub read : List (List ℕ)
  pub were : WereRead files.contents before read
  pub at_is : at ≡ place + length before
  pub fault_is : FileFault files file at f

pub file_of_stop : (files : FilesSeen) (names : List (List ℕ)) (place : ℕ) (f : Fault) → StopsReading files names place f → StopsAtFile files names place f
file_of_stop files [] place f h = absurd h
file_of_stop files (file ∷ more) place f (inl h) =
    record { file = file; at = place; before = []; after = more; split = refl; read = []; were = tt; at_is = omega arith; fault_is = h }
file_of_stop files (file ∷ more) place f (inr h) =
    let rest = file_of_stop files more (suc place) f h.2 in
    let at = rest.at_is in
    record {
      file = rest.file;
      at = rest.at;
      before = file ∷ rest.before;
      after = rest.after;
      split = ap (λ (xs : List (List ℕ)). file ∷ xs) rest.split;
      read = h.0 ∷ rest.read;
      were = (h.1, rest.were);
      at_is = omega (arith, at);
      fault_is = rest.fault_is;
    }

-- ---- what is due behind files that are told and not too long

pub whole_told : (files : FilesSeen) (names inputs : List (List ℕ)) → AreWhole files names inputs → AreTold files names
whole_told files [] inputs h = tt
whole_told files (file ∷ more) [] h = absurd h
whole_told files (file ∷ more) (bytes ∷ others) h = (bytes, h.0, λ fits. whole_told files more others h.2)

pub due_behind : (files : FilesSeen) (names inputs : List (List ℕ)) (place : ℕ) (next : List (List ℕ) → Course) (s : Status)
    → AreWhole files names inputs → IsDue (next inputs) s → IsDue (reading files names place next) s
due_behind files [] [] place next s h k = k
due_behind files [] (x ∷ xs) place next s h k = absurd h
due_behind files (file ∷ more) [] place next s h k = absurd h
due_behind files (file ∷ more) (bytes ∷ others) place next s h k =
    inr (tt, tt, inr (bytes, told_read files file bytes h.1 h.0, due_behind files more others (suc place) (λ xs. next (bytes ∷ xs)) s h.2 k))

pub due_of_reading : (files : FilesSeen) (names inputs : List (List ℕ)) (place : ℕ) (next : List (List ℕ) → Course) (s : Status)
    → AreWhole files names inputs → IsDue (reading files names place next) s → IsDue (next inputs) s
due_of_reading files [] [] place next s h k = k
due_of_reading files [] (x ∷ xs) place next s h k = absurd h
due_of_reading files (file ∷ more) [] place next s h k = absurd h
due_of_reading files (file ∷ more) (bytes ∷ others) place next s h (inl k) = absurd (k.1 tt tt)
due_of_reading files (file ∷ more) (bytes ∷ others) place next s h (inr (a, p, inl k)) = absurd (k.1 bytes (told_read files file bytes h.1 h.0))
due_of_reading files (file ∷ more) (bytes ∷ others) place next s h (inr (a, p, inr k)) =
    due_of_reading files more others (suc place) (λ xs. next (bytes ∷ xs)) s h.2
    (subst (λ (x : List ℕ). IsDue (reading files more (suc place) (λ xs. next (x ∷ xs))) s) (same_bytes files.contents file k.0 bytes k.1 h.0.told) k.2)

-- ---- a file that is too long, the first

pub first_long_told : (files : FilesSeen) (names : List (List ℕ)) (place at : ℕ) → IsFirstLong files names place at → AreTold files names
first_long_told files [] place at h = tt
first_long_told files (file ∷ more) place at (bytes, t, inl k) = (bytes, t, λ fits. let long = k.0 in absurd (omega (arith, long, fits)))
first_long_told files (file ∷ more) place at (bytes, t, inr k) = (bytes, t, λ fits. first_long_told files more (suc place) at k.1)

pub first_long_stops : (files : FilesSeen) (names : List (List ℕ)) (place at : ℕ) → IsFirstLong files names place at → StopsReading files names place (fault.TooLong at)
first_long_stops files [] place at h = absurd h
first_long_stops files (file ∷ more) place at (bytes, t, inl k) = inl (read_long (ap (λ (x : ℕ). fault.TooLong x) k.1) (long_told files file bytes k.0 t))
first_long_stops files (file ∷ more) place at (bytes, t, inr k) = inr (bytes, told_read files file bytes k.0 t, first_long_stops files more (suc place) at k.1)

-- one file of them
pub whole_at : (files : FilesSeen) (before : List (List ℕ)) (file : List ℕ) (after inputs : List (List ℕ)) → AreWhole files (before ++ file ∷ after) inputs
    → (bytes : List ℕ) × IsTold files file bytes × (length bytes ≤ longest_file)
whole_at files [] file after [] h = absurd h
whole_at files [] file after (bytes ∷ others) h = (bytes, h.0, h.1)
whole_at files (x ∷ xs) file after [] h = absurd h
whole_at files (x ∷ xs) file after (bytes ∷ others) h = whole_at files xs file after others h.2

-- what was read of them is what they hold
pub whole_read : (files : FilesSeen) (names inputs read : List (List ℕ)) → AreWhole files names inputs → WereRead files.contents names read → read ≡ inputs
whole_read files [] [] [] h w = refl
whole_read files [] [] (x ∷ xs) h w = absurd w
whole_read files [] (x ∷ xs) read h w = absurd h
whole_read files (file ∷ more) [] read h w = absurd h
whole_read files (file ∷ more) (bytes ∷ others) [] h w = absurd w
whole_read files (file ∷ more) (bytes ∷ others) (x ∷ xs) h w =
    ap (λ (y : List ℕ). y ∷ xs) (same_bytes files.contents file x bytes w.0 h.0.told) ∙ ap (λ (ys : List (List ℕ)). bytes ∷ ys) (whole_read files more others xs h.2 w.1)

-- ---- the first file

pub first_read : (contents : List ℕ → Option (List ℕ)) (file : List ℕ) (more inputs : List (List ℕ)) → WereRead contents (file ∷ more) inputs
    → WasRead contents file (file_at inputs 0)
first_read contents file more [] h = absurd h
first_read contents file more (bytes ∷ others) h = h.0

pub first_told : (files : FilesSeen) (file : List ℕ) (more inputs : List (List ℕ)) → AreWhole files (file ∷ more) inputs
    → files.contents file ≡ Some (file_at inputs 0)
first_told files file more [] h = absurd h
first_told files file more (bytes ∷ others) h = h.0.told
