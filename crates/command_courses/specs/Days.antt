-- The day that a word names: in range, from the start to a greatest day, or out of it; and the stage that passes one in range.
use Rattle.std.specs.Prelude.{◌≡◌, ◌≤ℤ◌, ◌<ℤ◌, ℕ, ℤ, pos, List, Ok, Err, ◌&&◌, Option, Some, None, Result, if◌then◌else◌, int_le}
use Rattle.term_model.specs.Declarations.{Declarations}
use Rattle.fixing_files.specs.Days.{day_of}
use Rattle.fixing_files.specs.declared.days.DayFault.TheVariants.{NoOrigin}
use Rattle.fixing_files.specs.declared.days.DayFault.{DayFault}
use Rattle.flow_eval.specs.Readiness.{last_day}
use Rattle.report.specs.declared.fault_lines.Fault.{Fault}
use Rattle.report.specs.declared.fault_lines.Fault.TheVariants as fault
use Rattle.command_courses.specs.Course.{Stage}
use Rattle.command_courses.specs.Stopping.{AnswersBy}
use Rattle.command_courses.specs.declared.status.Status.TheVariants as status
use Rattle.command_courses.specs.declared.stop.Stop.{Stop}

-- the greatest day that can be asked for
abbrev pub greatest_day : ℤ
greatest_day = pos last_day

-- the day that a word names, from the start to a greatest
abbrev pub IsDayAsked : Declarations → ℤ → List ℕ → ℤ → Type 0
IsDayAsked d greatest word day = (day_of d.origin word ≡ Ok day) × (pos d.start ≤ℤ day) × (day ≤ℤ greatest)

-- a word is a date where there is no origin, or names a day before the start or above a greatest
pub data IsOutOfRange (d : Declarations) (greatest : ℤ) (word : List ℕ) : Type 0 where
  no_origin : day_of d.origin word ≡ Err NoOrigin → IsOutOfRange d greatest word
  too_early : (day : ℤ) → day_of d.origin word ≡ Ok day → day <ℤ pos d.start → IsOutOfRange d greatest word
  too_late : (day : ℤ) → day_of d.origin word ≡ Ok day → greatest <ℤ day → IsOutOfRange d greatest word

-- a word names no day in range
pub record IsWordFault (d : Declarations) (greatest : ℤ) (word : List ℕ) (f : Fault) : Type 0 where
  pub out : IsOutOfRange d greatest word
  pub fault_is : f ≡ fault.Day word

-- the day of a word, from the start to the greatest
abbrev pub day_of_word : Declarations → List ℕ → Stage ℤ
day_of_word d word = record { status = status.DayRange; Passes = IsDayAsked d greatest_day word; FaultIs = IsWordFault d greatest_day word }

-- a day, where it is none before the start or above a greatest
abbrev pub day_in_range : Declarations → ℤ → Result ℤ DayFault → Option ℤ
day_in_range d greatest (Ok day) = if int_le (pos d.start) day && int_le day greatest then Some day else None
day_in_range d greatest (Err fault) = None

-- the day of a word
abbrev pub AnswersDay : Declarations → ℤ → List ℕ → Result ℤ Stop → Type 0
AnswersDay d greatest word r = AnswersBy (IsDayAsked d greatest word) (IsWordFault d greatest word) r
