-- The fixings of a table: the stage that passes them if each row is taken, and the places that are not fixed, which stop a command.
use Rattle.std.specs.Prelude.{◌≡◌, ℕ, List, [], Option, Some, None, ◌⊎◌, ◌≤◌, ℤ, Result, length}
use Rattle.term_model.specs.Declarations.{Declarations}
use Rattle.term_model.specs.Environments.{Environment, IsAdmitted}
use Rattle.term_model.specs.Limits.{longest_file}
use Rattle.fixing_files.specs.Tables.{Holds, table_of, IsFirstFault}
use Rattle.fixing_files.specs.declared.faults.RowFault.{RowFault}
use Rattle.flow_eval.specs.declared.faults.FlowErr.{FlowErr}
use Rattle.flow_eval.specs.declared.faults.FlowErr.TheVariants as flow
use Rattle.report.specs.declared.fault_lines.Fault.{Fault}
use Rattle.report.specs.declared.fault_lines.Fault.TheVariants as fault
use Rattle.command_courses.specs.Course.{Stage}
use Rattle.command_courses.specs.Names.{label_name}
use Rattle.command_courses.specs.Stopping.{AnswersBy}
use Rattle.command_courses.specs.declared.status.Status.TheVariants as status
use Rattle.command_courses.specs.declared.stop.Stop.{Stop}
use Rattle.command_courses.specs.declared.stop.Stop.TheVariants as stop

-- the fixings of a table, or none where none is named
abbrev pub AreFixings : Declarations → Option (List ℕ) → Environment → Type 0
AreFixings d None fixings = fixings ≡ []
AreFixings d (Some bytes) fixings = Holds d (table_of bytes) fixings

-- the first row of the table at a place that is refused
pub record IsRowFault (d : Declarations) (table : Option (List ℕ)) (place : ℕ) (f : Fault) : Type 0 where
  pub bytes : List ℕ
  pub named : table ≡ Some bytes
  pub row : RowFault
  pub first : IsFirstFault d (table_of bytes) row
  pub fault_is : f ≡ fault.Row place row

-- the fixings of the table at a place, or none where none is named
abbrev pub fixed_by : Declarations → Option (List ℕ) → ℕ → Stage Environment
fixed_by d table place = record { status = status.BadRow; Passes = AreFixings d table; FaultIs = IsRowFault d table place }

-- a table, where there is one, is no longer than a file
abbrev pub IsShortTable : Option (List ℕ) → Type 0
IsShortTable None = Unit {0}
IsShortTable (Some bytes) = length bytes ≤ longest_file

pub record HoldsFixings (d : Declarations) (table : Option (List ℕ)) (fixings : Environment) : Type 0 where
  pub are_fixings : AreFixings d table fixings
  pub admitted : IsAdmitted d fixings

abbrev pub AnswersFixings : Declarations → Option (List ℕ) → Result Environment Stop → Type 0
AnswersFixings d table r = AnswersBy (HoldsFixings d table) (IsRowFault d table 2) r

-- a place that is not fixed, as what stops a command
abbrev pub missing_at : Declarations → ℕ → ℤ → Stop
missing_at d label day = stop.Fault (fault.Missing (label_name d label) day)

-- what stops it where there are no flows: the place that is not fixed, or want of memory
abbrev pub IsStopOf : Declarations → FlowErr → Stop → Type 0
IsStopOf d (flow.Missing label day) s = (s ≡ missing_at d label day) ⊎ (s ≡ stop.NoMemory)
IsStopOf d flow.NoMemory s = s ≡ stop.NoMemory
