-- What the parts of `scenarios` answer behind accepted code, each that of its own or the fault that stops the command.
use Rattle.std.specs.Prelude.{◌≡◌, ◌⊎◌, ◌<◌, ℕ, List, Result, length}
use Rattle.decimal.specs.declared.rounding.Mode.{Mode}
use Rattle.term_model.specs.Declarations.{Declarations}
use Rattle.term_model.specs.Factors.{CurveRow}
use Rattle.fixing_files.specs.Tables.{table_of}
use Rattle.scenario_set.specs.LawsTotals.{at_setting}
use Rattle.scenario_set.specs.Scenarios.{AreAdmitted, NamedMap}
use Rattle.scenario_set.specs.ScenarioTables.{HoldsScenarios}
use Rattle.scenario_set.specs.Totals.{AreSmallTotals, AreTotals}
use Rattle.scenario_set.specs.Totals.{Inquiry as SetInquiry}
use Rattle.scenario_set.specs.declared.outcomes.Totals.{Totals}
use Rattle.scenario_set.specs.declared.outcomes.TotalsErr.{TotalsErr}
use Rattle.scenario_set.specs.declared.outcomes.TotalsErr.TheVariants.{TooMany, Missing, NoMemory}
use Rattle.report.specs.declared.fault_lines.Fault.{Fault}
use Rattle.report.specs.declared.fault_lines.Fault.TheVariants as fault
use Rattle.command_courses.specs.Course.{Course, behind}
use Rattle.valuation_commands.specs.ScenarioStages.{IsMissingIn, IsScenarioFault, IsTooMany, missing_in, scenarios_of}
use Rattle.valuation_commands.specs.ScenariosCourse.{total_told}
use Rattle.valuation_commands.specs.ValueStages.{curve_of}
use Rattle.command_courses.specs.Stopping.{AnswersBy}
use Rattle.valuation_commands.specs.ValueParts.{Inquiry}
use Rattle.valuation_commands.specs.ValuePromise.{question}
use Rattle.command_courses.specs.declared.stop.Stop.{Stop}
use Rattle.command_courses.specs.declared.stop.Stop.TheVariants as stop

-- ---- the scenarios

-- the table holds these scenarios
pub record HasScenarios (d : Declarations) (bytes : List ℕ) (set : List NamedMap) : Type 0 where
  pub holds : HoldsScenarios d (table_of bytes) set
  pub admitted : AreAdmitted d set

abbrev pub AnswersSet : Declarations → List ℕ → Result (List NamedMap) Stop → Type 0
AnswersSet d bytes r = AnswersBy (HasScenarios d bytes) (IsScenarioFault d bytes 2) r

-- ---- their totals

-- what is asked in scenarios, by a curve
abbrev pub by_factors : Inquiry → List CurveRow → SetInquiry
by_factors q curve = at_setting q.book q.setting (question q.day curve q.flow)

-- what stops a command whose scenarios have no total
abbrev pub IsStopOfTotals : Declarations → List NamedMap → TotalsErr → Stop → Type 0
IsStopOfTotals d set (TooMany count) s = s ≡ stop.Fault (fault.Scenarios count)
IsStopOfTotals d set (Missing number label day) s =
    (s ≡ stop.Fault (missing_in d set number (record { label = label; day = day }))) ⊎ (s ≡ stop.NoMemory)
IsStopOfTotals d set NoMemory s = s ≡ stop.NoMemory

-- the scenario that lacks a place is one of the set
abbrev pub LacksInOne : List NamedMap → TotalsErr → Type 0
LacksInOne set (Missing number label day) = number < length set
LacksInOne set _ = Unit {0}

-- what is known of totals that were found
pub record AreTotalsFound (q : SetInquiry) (set : List NamedMap) (totals : Totals) : Type 0 where
  pub are_totals : AreTotals q set totals
  pub small : AreSmallTotals totals

-- there are too many scenarios, or one lacks a place
abbrev pub HaveNoTotal : SetInquiry → List NamedMap → Fault → Type 0
HaveNoTotal q set f = IsTooMany q set f ⊎ IsMissingIn q set f

abbrev pub AnswersTotalsOf : SetInquiry → List NamedMap → Result Totals Stop → Type 0
AnswersTotalsOf q set r = AnswersBy (AreTotalsFound q set) (HaveNoTotal q set) r

-- ---- what is left of the course of `scenarios`

-- behind the scenarios
abbrev pub totals_by_curve : Inquiry → List NamedMap → Mode → List ℕ → Course
totals_by_curve q set mean curve = behind (curve_of curve 3) (λ factors. total_told (by_factors q factors) set mean)

-- behind the setting, at which the code is accepted
abbrev pub totals_by_tables : Inquiry → Mode → List ℕ → List ℕ → Course
totals_by_tables q mean table curve =
    behind (scenarios_of q.book.declarations table 2) (λ set. totals_by_curve q set mean curve)
