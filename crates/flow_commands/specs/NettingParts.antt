-- What the parts of `positions` and `settle` answer.
use Rattle.std.specs.Prelude.{◌≡◌, ◌≤◌, ◌≤ℤ◌, ◌^◌, ℕ, ℤ, pos, List, ◌++◌, Option, None, Result}
use Rattle.term_model.specs.Books.{Book}
use Rattle.term_model.specs.declared.decls.Decls.{Decls}
use Rattle.term_model.specs.declared.name.Name.{Name}
use Rattle.term_model.specs.Declarations.{Declarations, declarations}
use Rattle.term_model.specs.Environments.{Environment}
use Rattle.term_model.specs.Terms.{Contract}
use Rattle.contract_grammar.specs.Texts.{Text}
use Rattle.contract_parse.specs.declared.next_contracts.ContractReader.{ContractReader}
use Rattle.interval_check.specs.Safety.{IsSmall}
use Rattle.flow_eval.specs.Readiness.{last_day}
use Rattle.flow_eval.specs.declared.flow_table.FlowTable.{FlowTable}
use Rattle.report.specs.FlowLines.{IsWholeInAsset}
use Rattle.report.specs.RunningSums.{AreNetOf, TellsSum}
use Rattle.exposure.specs.declared.accounts.PositionRow.{PositionRow}
use Rattle.exposure.specs.LawsTables.{AreDuring, AreWholeInAssets}
use Rattle.exposure.specs.Positions.{sizes_of}
use Rattle.command_words.specs.Commands.{NettingAsked}
use Rattle.used_contracts.specs.AllAccepted.{AreAllAccepted}
use Rattle.used_contracts.specs.ChoosingParts.{StopsIn, so_far}
use Rattle.command_courses.specs.Course.{Stops}
use Rattle.command_courses.specs.Inputs.{file_at, table_if_named}
use Rattle.flow_commands.specs.FlowsCourse.{flows_of_text}
use Rattle.flow_commands.specs.FlowsParts.{ListsFlows, StopsFlows}
use Rattle.used_contracts.specs.AllFixed.{AreAllFixed}
use Rattle.command_courses.specs.FixingTables.{AreFixings}
use Rattle.flow_commands.specs.FlowsPromise.{AreTables, IsLastDay}
use Rattle.flow_commands.specs.NettingCourse.{flows_of_all}
use Rattle.flow_commands.specs.NettingPromise.{ArePositionLines}
use Rattle.used_contracts.specs.ReadingParts.{IsBegun}
use Rattle.command_courses.specs.Stopping.{AnswersBy}
use Rattle.used_contracts.specs.UsedContracts.{used}
use Rattle.used_contracts.specs.declared.choice.Choice.{Choice}
use Rattle.flow_commands.specs.declared.flows_until.FlowsUntil.{FlowsUntil}
use Rattle.flow_commands.specs.declared.flows.Listed.{Listed}
use Rattle.command_courses.specs.declared.stop.Stop.{Stop}

-- a position that a line can hold
pub record IsDuePosition (d : Declarations) (row : PositionRow) : Type 0 where
  pub first : pos 0 ≤ℤ row.day
  pub last : row.day ≤ℤ pos last_day
  pub small : IsSmall row.amount
  pub whole : IsWholeInAsset d row.asset row.amount

-- the lines of positions, behind what was there before
pub record AppendsPositions (d : Declarations) (rows : List PositionRow) (before after : List ℕ) : Type 0 where
  pub text : List ℕ
  pub lines : ArePositionLines d rows text
  pub appended : after ≡ before ++ text

-- tables that can be added up, and of which lines can hold what comes
pub record AreReady (d : Declarations) (tables : List FlowTable) : Type 0 where
  pub together : sizes_of tables ≤ 10 ^ 36
  pub during : AreDuring (pos 0) (pos last_day) tables
  pub whole : AreWholeInAssets d tables

-- nothing stops `flows` of all contracts, and these are the tables
pub record TablesKnown (asked : NettingAsked) (b : Book) (table : Option (List ℕ)) (tables : List FlowTable) : Type 0 where
  pub last : ℤ
  pub is_last : IsLastDay b.declarations asked.until last
  pub accepted : AreAllAccepted b.declarations (used None b)
  pub fixings : Environment
  pub are_fixings : AreFixings b.declarations table fixings
  pub fixed : AreAllFixed b.declarations fixings last (used None b)
  pub are_tables : AreTables b.declarations fixings last (used None b) tables
  pub ready : AreReady b.declarations tables

-- the net of the tables of contracts of a text, as their flows are summed
pub record ListsNet (text : List ℕ) (until : FlowsUntil) (net : FlowTable) : Type 0 where
  pub listed : Listed
  pub lists : ListsFlows text until listed
  pub told : TellsSum listed.sum net.rows.items

-- this, or what stops their flows
abbrev pub AnswersNet : FlowsUntil → ContractReader → Result FlowTable Stop → Type 0
AnswersNet until reader r =
    let d = declarations until.choice.decls.now in
    (text : List ℕ) → IsBegun text d reader → AnswersBy (ListsNet text until) (StopsIn text d (StopsFlows until)) r

-- the net of the tables of all contracts of a text that nothing stops
pub record KnowsNet (asked : NettingAsked) (text : List ℕ) (table : Option (List ℕ)) (d : Declarations) (net : FlowTable) : Type 0 where
  pub entries : List (Name × Contract)
  pub is_text : Text text (so_far d entries)
  pub tables : List FlowTable
  pub known : TablesKnown asked (so_far d entries) table tables
  pub is_net : AreNetOf tables net.rows.items

-- the declarations and this, or what stops `flows` of all contracts of the text
abbrev pub AnswersNetOfText : NettingAsked → List (List ℕ) → Result (Decls × FlowTable) Stop → Type 0
AnswersNetOfText asked inputs r =
    let text = file_at inputs 0 in
    let table = table_if_named asked.fixings inputs in
    AnswersBy (λ all. KnowsNet asked text table (declarations all.0) all.1) (Stops (flows_of_text (flows_of_all asked) text table)) r

-- whichever text is begun
abbrev pub AnswersNetOfAll : Choice → ContractReader → NettingAsked → Option (List ℕ) → Result FlowTable Stop → Type 0
AnswersNetOfAll choice reader asked table r =
    (text : List ℕ) → IsBegun text (declarations choice.decls.now) reader
    → AnswersBy (KnowsNet asked text table (declarations choice.decls.now)) (Stops (flows_of_text (flows_of_all asked) text table)) r
