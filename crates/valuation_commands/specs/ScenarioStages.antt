-- The stages of `scenarios` behind accepted code, each with its status, what it passes on, and the fault that it has.
use Rattle.std.specs.Prelude.{◌≡◌, ◌<◌, ℕ, List, length}
use Rattle.term_model.specs.Declarations.{Declarations}
use Rattle.term_model.specs.Environments.{Place}
use Rattle.fixing_files.specs.Tables.{table_of}
use Rattle.fixing_files.specs.declared.faults.RowFault.{RowFault}
use Rattle.scenario_set.specs.Scenarios.{NamedMap}
use Rattle.scenario_set.specs.ScenarioTables.{HoldsScenarios, IsFirstFault}
use Rattle.scenario_set.specs.TotalLines.{name_at}
use Rattle.scenario_set.specs.Totals.{AreFew, AreTooMany, Inquiry, IsFirstLack, IsFixedIn}
use Rattle.report.specs.declared.fault_lines.Fault.{Fault}
use Rattle.report.specs.declared.fault_lines.Fault.TheVariants as fault
use Rattle.command_courses.specs.Course.{Stage}
use Rattle.command_courses.specs.Names.{label_name}
use Rattle.command_courses.specs.declared.status.Status.TheVariants as status

-- the first row of a table of scenarios at a place that is refused
pub record IsScenarioFault (d : Declarations) (bytes : List ℕ) (place : ℕ) (f : Fault) : Type 0 where
  pub row : RowFault
  pub first : IsFirstFault d (table_of bytes) row
  pub fault_is : f ≡ fault.Row place row

-- the scenarios of the table at a place
abbrev pub scenarios_of : Declarations → List ℕ → ℕ → Stage (List NamedMap)
scenarios_of d bytes place =
    record { status = status.BadRow; Passes = HoldsScenarios d (table_of bytes); FaultIs = IsScenarioFault d bytes place }

-- there are so many scenarios that their total need not fit, and the fault has their count
pub record IsTooMany (q : Inquiry) (set : List NamedMap) (f : Fault) : Type 0 where
  pub many : AreTooMany q set
  pub fault_is : f ≡ fault.Scenarios (length set)

-- scenarios that are not too many
abbrev pub few_scenarios : Inquiry → List NamedMap → Stage (Unit {0})
few_scenarios q set = record { status = status.TooMany; Passes = λ _. AreFew q set; FaultIs = IsTooMany q set }

-- each read in each scenario is fixed
abbrev pub AreAllFixedIn : Inquiry → List NamedMap → Type 0
AreAllFixedIn q set = (i : ℕ) → i < length set → IsFixedIn q set i

-- a place is not fixed in a scenario
abbrev pub missing_in : Declarations → List NamedMap → ℕ → Place → Fault
missing_in d set i place = fault.MissingIn (label_name d place.label) place.day (name_at set i)

-- the first read that is not fixed, in the first scenario that has one
pub record IsMissingIn (q : Inquiry) (set : List NamedMap) (f : Fault) : Type 0 where
  pub number : ℕ
  pub place : Place
  pub first : IsFirstLack q set number place
  pub fault_is : f ≡ missing_in q.book.declarations set number place

-- scenarios in which each read is fixed
abbrev pub fixed_in_all : Inquiry → List NamedMap → Stage (Unit {0})
fixed_in_all q set = record { status = status.Missing; Passes = λ _. AreAllFixedIn q set; FaultIs = IsMissingIn q set }
