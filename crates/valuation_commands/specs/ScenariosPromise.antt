-- What the command `scenarios` says of a code file over a table of scenarios and discount factors: for each scenario the line of
-- what the code is worth in it, on a day, from one party to another in an asset, at the numbers that are set for templates and
-- the declared ones of the others; and then the lines of the total of these values, of their mean, and of the first scenarios
-- of the least and of the greatest.
use Rattle.std.specs.Prelude.{◌≡◌, ◌+◌, ℕ, ℤ, List}
use Rattle.decimal.specs.declared.rounding.Mode.{Mode}
use Rattle.term_model.specs.Factors.{CurveRow}
use Rattle.term_model.specs.Flows.{Flow}
use Rattle.fixing_files.specs.CurveTables.{HoldsCurve}
use Rattle.fixing_files.specs.Tables.{table_of}
use Rattle.payoff_terms.specs.CodeAcceptance.{IsAcceptedCode}
use Rattle.payoff_terms.specs.CodeBooks.{CodeBook}
use Rattle.scenario_set.specs.LawsTotals.{at_setting}
use Rattle.scenario_set.specs.Scenarios.{NamedMap}
use Rattle.scenario_set.specs.ScenarioTables.{HoldsScenarios}
use Rattle.scenario_set.specs.TotalLines.{total_text}
use Rattle.scenario_set.specs.Totals.{AreFew, AreTotals, Inquiry}
use Rattle.scenario_set.specs.declared.outcomes.Totals.{Totals}
use Rattle.command_words.specs.Commands.{ScenariosAsked, ValueAsked}
use Rattle.valuation_commands.specs.ScenarioStages.{AreAllFixedIn}
use Rattle.valuation_commands.specs.ValuePromise.{AreBetween, WordsFitCode, question, setting_by}

-- what the words ask of code, by a curve, on a day, between parties in an asset
abbrev pub asked_by : CodeBook → ValueAsked → ℤ → List CurveRow → Flow → Inquiry
asked_by b asked day curve flow = at_setting b (setting_by b.declarations asked.settings) (question day curve flow)

-- names are known, the day is in range, the code is accepted and the rows are taken
pub record AsksInScenarios (b : CodeBook) (asked : ValueAsked) (table curve_table : List ℕ) : Type 0 where
  pub day : ℤ
  pub fit : WordsFitCode b.declarations asked day
  pub flow : Flow
  pub between : AreBetween b.declarations asked.between flow
  pub accepted : IsAcceptedCode b.declarations (setting_by b.declarations asked.settings) b.code
  pub set : List NamedMap
  pub holds : HoldsScenarios b.declarations (table_of table) set
  pub curve : List CurveRow
  pub is_curve : HoldsCurve (table_of curve_table) curve

-- what is then asked
abbrev pub inquiry_in : {b : CodeBook} {asked : ValueAsked} {table curve_table : List ℕ} → AsksInScenarios b asked table curve_table → Inquiry
inquiry_in {b} {asked} asks = asked_by b asked asks.day asks.curve asks.flow

-- nothing stops the command: the scenarios are not too many, and each read is fixed in each
pub record CanTotal (b : CodeBook) (asked : ValueAsked) (table curve_table : List ℕ) : Type 0 where
  pub asks : AsksInScenarios b asked table curve_table
  pub few : AreFew (inquiry_in asks) asks.set
  pub fixed : AreAllFixedIn (inquiry_in asks) asks.set

-- the lines of the values in scenarios, of their total, of their mean, of the least and of the greatest
pub record AreTotalLines (q : Inquiry) (set : List NamedMap) (mean : Mode) (text : List ℕ) : Type 0 where
  pub totals : Totals
  pub are_totals : AreTotals q set totals
  pub lines : text ≡ total_text set totals mean (q.book.declarations.amounts + 9)

-- the whole answer
pub record IsScenariosText (b : CodeBook) (asked : ScenariosAsked) (table curve_table text : List ℕ) : Type 0 where
  pub can : CanTotal b asked.value table curve_table
  pub told : AreTotalLines (inquiry_in can.asks) can.asks.set asked.mean text
