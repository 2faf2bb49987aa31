-- What the law of statuses says of `value`, status by status: in the order of its stages, each with what passes before it.
use Rattle.std.specs.Prelude.{◌≡◌, ℕ, ℤ, List, Option, Some, None}
use Rattle.term_model.specs.Declarations.{Declarations}
use Rattle.term_model.specs.Environments.{Environment, Place}
use Rattle.term_model.specs.Factors.{CurveRow}
use Rattle.term_model.specs.Flows.{Flow}
use Rattle.fixing_files.specs.CurveTables.{HoldsCurve, IsFirstCurveFault}
use Rattle.fixing_files.specs.Tables.{Holds, IsFirstFault, table_of}
use Rattle.fixing_files.specs.declared.faults.RowFault.{RowFault}
use Rattle.payoff_terms.specs.CodeAcceptance.{IsAcceptedCode}
use Rattle.payoff_terms.specs.CodeBooks.{CodeBook}
use Rattle.payoff_terms.specs.CodeValues.{Asked as Question}
use Rattle.report.specs.declared.fault_lines.Fault.{Fault}
use Rattle.command_words.specs.Commands.{ValueAsked}
use Rattle.command_courses.specs.Course.{IsDue, Stops}
use Rattle.command_courses.specs.Days.{IsOutOfRange, greatest_day}
use Rattle.command_courses.specs.Statuses.{status_of}
use Rattle.valuation_commands.specs.ValueCourse.{numbers, value_on}
use Rattle.valuation_commands.specs.ValuePromise.{AreBetween, CanValue, WordsFitCode, first_unknown, missing_of_code, question}
use Rattle.command_courses.specs.declared.status.Status.{Status}
use Rattle.command_courses.specs.declared.status.Status.TheVariants as status

-- some name of the words is not declared
abbrev pub SomeNameIsUndeclared : ValueAsked → CodeBook → Type 0
SomeNameIsUndeclared asked b = (name : List ℕ) × (first_unknown b.declarations asked ≡ Some name)

-- names are declared, and the day is out of range
pub record DayOfValueIsOut (asked : ValueAsked) (b : CodeBook) : Type 0 where
  pub known : first_unknown b.declarations asked ≡ None
  pub out : IsOutOfRange b.declarations greatest_day asked.at

-- the code is accepted at the numbers that are set
abbrev pub IsAcceptedAtSetting : ValueAsked → CodeBook → Type 0
IsAcceptedAtSetting asked b = IsAcceptedCode b.declarations (numbers b asked) b.code

-- the first read that is not fixed, at the numbers that are set
abbrev pub missing_at_setting : ValueAsked → CodeBook → Environment → Question → Option Place
missing_at_setting asked b fixings asks = missing_of_code b.declarations b.code (numbers b asked) fixings asks

-- the words fit, and the code is not accepted at the numbers that are set
pub record CodeIsRefused (asked : ValueAsked) (b : CodeBook) : Type 0 where
  pub day : ℤ
  pub fit : WordsFitCode b.declarations asked day
  pub refused : IsAcceptedAtSetting asked b → ⊥

-- some row of the fixings is refused, or none is and some row of the curve is
pub data HasBadRow (d : Declarations) (table curve : List ℕ) : Type 0 where
  of_fixings : (row : RowFault) → IsFirstFault d (table_of table) row → HasBadRow d table curve
  of_curve :
      (fixings : Environment) → Holds d (table_of table) fixings
      → (row : RowFault) → IsFirstCurveFault (table_of curve) row → HasBadRow d table curve

-- the code is accepted, and some row is refused
pub record RowOfValueIsBad (asked : ValueAsked) (table curve : List ℕ) (b : CodeBook) : Type 0 where
  pub day : ℤ
  pub fit : WordsFitCode b.declarations asked day
  pub accepted : IsAcceptedAtSetting asked b
  pub bad : HasBadRow b.declarations table curve

-- the code is accepted and the rows are taken, and some read is not fixed
pub record ReadOfValueIsMissing (asked : ValueAsked) (table curve : List ℕ) (b : CodeBook) : Type 0 where
  pub day : ℤ
  pub fit : WordsFitCode b.declarations asked day
  pub flow : Flow
  pub between : AreBetween b.declarations asked.between flow
  pub accepted : IsAcceptedAtSetting asked b
  pub fixings : Environment
  pub are_fixings : Holds b.declarations (table_of table) fixings
  pub factors : List CurveRow
  pub are_factors : HoldsCurve (table_of curve) factors
  pub unfixed : missing_at_setting asked b fixings (question day factors flow) ≡ None → ⊥

-- the cause of a status of `value` that has its code file
abbrev pub CauseOfValue : Status → ValueAsked → List ℕ → List ℕ → CodeBook → Type 0
CauseOfValue status.UnknownName asked table curve b = SomeNameIsUndeclared asked b
CauseOfValue status.DayRange asked table curve b = DayOfValueIsOut asked b
CauseOfValue status.Refused asked table curve b = CodeIsRefused asked b
CauseOfValue status.BadRow asked table curve b = RowOfValueIsBad asked table curve b
CauseOfValue status.Missing asked table curve b = ReadOfValueIsMissing asked table curve b
CauseOfValue status.Done asked table curve b = CanValue b asked table curve
CauseOfValue _ asked table curve b = ⊥

-- where a cause stands its status is due, and what stops the command has its cause
pub record DueOfValueIs (asked : ValueAsked) (table curve : List ℕ) (b : CodeBook) : Type 0 where
  pub due : (s : Status) → CauseOfValue s asked table curve b → IsDue (value_on asked b table curve) s
  pub cause : (f : Fault) → Stops (value_on asked b table curve) f → CauseOfValue (status_of f) asked table curve b

abbrev pub DueOfValue : Type 0
DueOfValue = (asked : ValueAsked) (table curve : List ℕ) (b : CodeBook) → DueOfValueIs asked table curve b
