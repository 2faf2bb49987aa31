-- A run from its parts: the reading of files, and what is made of their bytes.
use Rattle.std.proofs.Common.{◌≡◌, ◌≢◌, ◌≤◌, ℕ, suc, length, List, [], ◌∷◌, inl, inr, arith, subst, sym}
use Rattle.std.specs.Prelude.{Option, Some, None}
use Rattle.std.specs.List.{All}
use Rattle.std.proofs.lemmas.List.Elements.{All-cons, All-nil}
use Rattle.report.specs.declared.fault_lines.Fault.{Fault}
use Rattle.command_words.specs.Commands.{Advance, Check, Expand, Flows, Migrate, Novate, Payoff, Positions, Request, Sample, Scenarios, Settle, Value, file_if_named, files_of}
use Rattle.command_courses.specs.Course.{Course, Stops, Tells}
use Rattle.command_answers.specs.Courses.{course_of}
use Rattle.command_courses.specs.Inputs.{AreShort}
use Rattle.command_courses.specs.declared.status.Status.{Status}
use Rattle.contract_cli.specs.Reading.{read_failed, read_long, StopsReading, WereRead, reading}
use Rattle.contract_cli.specs.RunPromise.{CountsOnlyBy, Names, run_course}
use Rattle.contract_cli.specs.Seen.{CountsOnlyOf, FilesSeen, longest_file}

-- what stops the reading stops the course of it
pub stops_reading : (files : FilesSeen) (names : List (List ℕ)) (place : ℕ) (next : List (List ℕ) → Course) (f : Fault) → StopsReading files names place f
    → Stops (reading files names place next) f
stops_reading files [] place next f h = absurd h
stops_reading files (file ∷ more) place next f (inl (read_failed is rose)) = inl (is, rose)
stops_reading files (file ∷ more) place next f (inl (read_long is long)) = inr (tt, tt, inl (is, long))
stops_reading files (file ∷ more) place next f (inr h) =
    inr (tt, tt, inr (h.0, h.1, stops_reading files more (suc place) (λ others. next (h.0 ∷ others)) f h.2))

-- what stops behind it, and what is told there
pub stops_behind_reading : (files : FilesSeen) (names : List (List ℕ)) (place : ℕ) (next : List (List ℕ) → Course) (read : List (List ℕ)) (f : Fault)
    → WereRead files.contents names read → Stops (next read) f → Stops (reading files names place next) f
stops_behind_reading files [] place next [] f h k = k
stops_behind_reading files [] place next (x ∷ xs) f h k = absurd h
stops_behind_reading files (file ∷ more) place next [] f h k = absurd h
stops_behind_reading files (file ∷ more) place next (x ∷ xs) f h k =
    inr (tt, tt, inr (x, h.0, stops_behind_reading files more (suc place) (λ others. next (x ∷ others)) xs f h.1 k))

pub tells_behind_reading : (files : FilesSeen) (names : List (List ℕ)) (place : ℕ) (next : List (List ℕ) → Course) (read : List (List ℕ)) (s : Status) (text : List ℕ)
    → WereRead files.contents names read → Tells (next read) s text → Tells (reading files names place next) s text
tells_behind_reading files [] place next [] s text h k = k
tells_behind_reading files [] place next (x ∷ xs) s text h k = absurd h
tells_behind_reading files (file ∷ more) place next [] s text h k = absurd h
tells_behind_reading files (file ∷ more) place next (x ∷ xs) s text h k =
    (tt, tt, (x, h.0, tells_behind_reading files more (suc place) (λ others. next (x ∷ others)) xs s text h.1 k))

-- ---- the whole run, of words that have a form

module _ (words : List (List ℕ)) (files : FilesSeen) (request : Request) (formed : Names words request) (names : List (List ℕ)) (named : names ≡ files_of request) where
  pub stops_run : (f : Fault) → StopsReading files names 1 f → Stops (run_course words files) f
  stops_run f h = inr (request, formed, stops_reading files (files_of request) 1 (course_of request) f (subst (λ (xs : List (List ℕ)). StopsReading files xs 1 f) named h))

  module _ (read : List (List ℕ)) (were : WereRead files.contents names read) where
    were_named : WereRead files.contents (files_of request) read
    were_named = subst (λ (xs : List (List ℕ)). WereRead files.contents xs read) named were

    pub stops_behind_files : (f : Fault) → Stops (course_of request read) f → Stops (run_course words files) f
    stops_behind_files f h = inr (request, formed, stops_behind_reading files (files_of request) 1 (course_of request) read f were_named h)

    pub tells_behind_files : (s : Status) (text : List ℕ) → Tells (course_of request read) s text → Tells (run_course words files) s text
    tells_behind_files s text h = (request, formed, tells_behind_reading files (files_of request) 1 (course_of request) read s text were_named h)

  pub counts_by_words : CountsOnlyOf names files → CountsOnlyBy words files
  counts_by_words h = record {
    later = h.later;
    others = λ file unnamed told. h.others file (subst (λ (xs : List (List ℕ)). All (λ name. file ≢ name) xs) (sym named) (unnamed request formed)) told;
  }

-- what was read is no longer than the limit
pub were_short : (contents : List ℕ → Option (List ℕ)) (names read : List (List ℕ)) → WereRead contents names read → AreShort read
were_short contents [] [] h = All-nil (λ (bytes : List ℕ). length bytes ≤ longest_file)
were_short contents [] (x ∷ xs) h = absurd h
were_short contents (n ∷ ns) [] h = absurd h
were_short contents (n ∷ ns) (x ∷ xs) h = All-cons (λ (bytes : List ℕ). length bytes ≤ longest_file) x xs h.0.fits (were_short contents ns xs h.1)

-- no command has more than three files
few_if_named : (fixings : Option (List ℕ)) → length (file_if_named fixings) ≤ 1
few_if_named None = omega arith
few_if_named (Some file) = omega arith

pub few_files : (request : Request) → length (files_of request) ≤ 255
few_files (Check portfolio) = omega arith
few_files (Flows flows) = let few = few_if_named flows.fixings in omega (arith, few)
few_files (Advance advance) = omega arith
few_files (Payoff payoff) = omega arith
few_files (Value value) = omega arith
few_files (Migrate portfolio) = omega arith
few_files (Expand plans) = omega arith
few_files (Sample contracts) = omega arith
few_files (Positions netting) = let few = few_if_named netting.fixings in omega (arith, few)
few_files (Settle netting) = let few = few_if_named netting.fixings in omega (arith, few)
few_files (Novate novate) = omega arith
few_files (Scenarios scenarios) = omega arith
