-- The stage of the last day, with what it passes on and the fault that it has.
use Rattle.std.specs.Prelude.{◌≡◌, ℕ, ℤ, List, Option, Some}
use Rattle.term_model.specs.Declarations.{Declarations}
use Rattle.report.specs.declared.fault_lines.Fault.{Fault}
use Rattle.report.specs.declared.fault_lines.Fault.TheVariants as fault
use Rattle.command_courses.specs.Course.{Stage}
use Rattle.command_courses.specs.Days.{IsOutOfRange, greatest_day}
use Rattle.command_courses.specs.declared.status.Status.TheVariants as status
use Rattle.flow_commands.specs.FlowsPromise.{IsLastDay}

-- the word that gives the last day names none in range
pub record IsDayFault (d : Declarations) (until : Option (List ℕ)) (f : Fault) : Type 0 where
  pub word : List ℕ
  pub given : until ≡ Some word
  pub out : IsOutOfRange d greatest_day word
  pub fault_is : f ≡ fault.Day word

-- the last day that is asked for
abbrev pub last_day : Declarations → Option (List ℕ) → Stage ℤ
last_day d until = record { status = status.DayRange; Passes = IsLastDay d until; FaultIs = IsDayFault d until }
