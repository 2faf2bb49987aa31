-- What the law of statuses says of `scenarios`, status by status: in the order of its stages, each with what passes before it.
use Rattle.std.specs.Prelude.{ℕ, ℤ, List}
use Rattle.term_model.specs.Declarations.{Declarations}
use Rattle.fixing_files.specs.CurveTables.{IsFirstCurveFault}
use Rattle.fixing_files.specs.Tables.{table_of}
use Rattle.fixing_files.specs.declared.faults.RowFault.{RowFault}
use Rattle.payoff_terms.specs.CodeBooks.{CodeBook}
use Rattle.scenario_set.specs.Scenarios.{NamedMap}
use Rattle.scenario_set.specs.ScenarioTables.{HoldsScenarios, IsFirstFault}
use Rattle.scenario_set.specs.Totals.{AreFew, AreTooMany}
use Rattle.report.specs.declared.fault_lines.Fault.{Fault}
use Rattle.command_words.specs.Commands.{ScenariosAsked, ValueAsked}
use Rattle.command_courses.specs.Course.{IsDue, Stops}
use Rattle.valuation_commands.specs.DueOfValue.{CodeIsRefused, DayOfValueIsOut, IsAcceptedAtSetting, SomeNameIsUndeclared}
use Rattle.valuation_commands.specs.ScenarioStages.{AreAllFixedIn}
use Rattle.valuation_commands.specs.ScenariosCourse.{scenarios_on}
use Rattle.valuation_commands.specs.ScenariosPromise.{AsksInScenarios, CanTotal, inquiry_in}
use Rattle.command_courses.specs.Statuses.{status_of}
use Rattle.valuation_commands.specs.ValuePromise.{WordsFitCode}
use Rattle.command_courses.specs.declared.status.Status.{Status}
use Rattle.command_courses.specs.declared.status.Status.TheVariants as status

-- some row of the scenarios is refused, or none is and some row of the curve is
pub data HasBadScenarioRow (d : Declarations) (table curve : List ℕ) : Type 0 where
  of_scenarios : (row : RowFault) → IsFirstFault d (table_of table) row → HasBadScenarioRow d table curve
  of_factors :
      (set : List NamedMap) → HoldsScenarios d (table_of table) set
      → (row : RowFault) → IsFirstCurveFault (table_of curve) row → HasBadScenarioRow d table curve

-- the code is accepted, and some row is refused
pub record RowOfScenariosIsBad (asked : ValueAsked) (table curve : List ℕ) (b : CodeBook) : Type 0 where
  pub day : ℤ
  pub fit : WordsFitCode b.declarations asked day
  pub accepted : IsAcceptedAtSetting asked b
  pub bad : HasBadScenarioRow b.declarations table curve

-- the code is accepted and the rows are taken, and the scenarios are so many that their total need not fit
pub record ScenariosAreTooMany (asked : ValueAsked) (table curve : List ℕ) (b : CodeBook) : Type 0 where
  pub asks : AsksInScenarios b asked table curve
  pub many : AreTooMany (inquiry_in asks) asks.set

-- the scenarios are not too many, and some read is not fixed in some
pub record SomeScenarioLacks (asked : ValueAsked) (table curve : List ℕ) (b : CodeBook) : Type 0 where
  pub asks : AsksInScenarios b asked table curve
  pub few : AreFew (inquiry_in asks) asks.set
  pub unfixed : AreAllFixedIn (inquiry_in asks) asks.set → ⊥

-- the cause of a status of `scenarios` that has its code file
abbrev pub CauseOfScenarios : Status → ValueAsked → List ℕ → List ℕ → CodeBook → Type 0
CauseOfScenarios status.UnknownName asked table curve b = SomeNameIsUndeclared asked b
CauseOfScenarios status.DayRange asked table curve b = DayOfValueIsOut asked b
CauseOfScenarios status.Refused asked table curve b = CodeIsRefused asked b
CauseOfScenarios status.BadRow asked table curve b = RowOfScenariosIsBad asked table curve b
CauseOfScenarios status.TooMany asked table curve b = ScenariosAreTooMany asked table curve b
CauseOfScenarios status.Missing asked table curve b = SomeScenarioLacks asked table curve b
CauseOfScenarios status.Done asked table curve b = CanTotal b asked table curve
CauseOfScenarios _ asked table curve b = ⊥

-- where a cause stands its status is due, and what stops the command has its cause
pub record DueOfScenariosIs (asked : ScenariosAsked) (table curve : List ℕ) (b : CodeBook) : Type 0 where
  pub due : (s : Status) → CauseOfScenarios s asked.value table curve b → IsDue (scenarios_on asked b table curve) s
  pub cause : (f : Fault) → Stops (scenarios_on asked b table curve) f → CauseOfScenarios (status_of f) asked.value table curve b

abbrev pub DueOfScenarios : Type 0
DueOfScenarios = (asked : ScenariosAsked) (table curve : List ℕ) (b : CodeBook) → DueOfScenariosIs asked table curve b
