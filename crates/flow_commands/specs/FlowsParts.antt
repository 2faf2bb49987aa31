-- What the parts of `flows` answer, each that of its own or the fault that stops the command.
use Rattle.std.specs.Prelude.{◌≡◌, ◌≤◌, ◌≤ℤ◌, ℕ, ℤ, pos, Bool, true, false, List, [], ◌∷◌, ◌++◌, Option, None, Result, length}
use Rattle.std.specs.Global.{Vec}
use Rattle.term_model.specs.declared.name.Name.{Name}
use Rattle.term_model.specs.Books.{Book}
use Rattle.term_model.specs.Declarations.{Declarations, declarations}
use Rattle.term_model.specs.Environments.{Environment}
use Rattle.term_model.specs.Terms.{Contract}
use Rattle.term_model.specs.Limits.{longest_file}
use Rattle.contract_grammar.specs.Texts.{Text}
use Rattle.contract_parse.specs.declared.next_contracts.ContractReader.{ContractReader}
use Rattle.flow_eval.specs.Readiness.{last_day}
use Rattle.flow_eval.specs.FlowAnswers.{AreKnownFlows}
use Rattle.flow_eval.specs.declared.flow_table.FlowRow.{FlowRow}
use Rattle.flow_eval.specs.declared.flow_table.FlowTable.{FlowTable}
use Rattle.report.specs.RunningSums.{AddsTable, IsSumSoFar}
use Rattle.report.specs.declared.fault_lines.Fault.{Fault}
use Rattle.report.specs.declared.sums.FlowSum.{FlowSum}
use Rattle.command_words.specs.Commands.{FlowsAsked}
use Rattle.command_courses.specs.FixingTables.{HoldsFixings, IsRowFault}
use Rattle.command_courses.specs.Stopping.{AnswersBy, GoesDone}
use Rattle.command_courses.specs.declared.stop.Stop.{Stop}
use Rattle.used_contracts.specs.AllAccepted.{AreAllAccepted, IsRefusedOf}
use Rattle.used_contracts.specs.AllFixed.{AreAllFixed, IsMissingOf, IsMissingOne, all_fixed}
use Rattle.used_contracts.specs.ChoosingParts.{Holds, IsWalkedThrough, Selection, StopsIn, StopsOn, selection, so_far}
use Rattle.used_contracts.specs.Portfolios.{IsBadText, IsUnknownName}
use Rattle.used_contracts.specs.ReadingParts.{IsBegun}
use Rattle.used_contracts.specs.UsedContracts.{is_known, used}
use Rattle.used_contracts.specs.declared.choice.Choice.{Choice}
use Rattle.used_contracts.specs.declared.choosing.Tried.{Tried}
use Rattle.flow_commands.specs.FlowsCourse.{flows_of_text}
use Rattle.flow_commands.specs.FlowsPromise.{AreAllLines, AreLines, AreLinesAsked, AreSumLines, AreTables, IsLastDay}
use Rattle.flow_commands.specs.FlowsStages.{IsDayFault}
use Rattle.flow_commands.specs.declared.flows.KeptFlows.{KeptFlows}
use Rattle.flow_commands.specs.declared.flows.Listed.{Listed}
use Rattle.flow_commands.specs.declared.flows.Over.{Over}
use Rattle.flow_commands.specs.declared.flows_until.FlowsUntil.{FlowsUntil}

-- ---- the day of a word

pub record CanBeLast (d : Declarations) (until : Option (List ℕ)) (last : ℤ) : Type 0 where
  pub is_last : IsLastDay d until last
  pub first : pos 0 ≤ℤ last
  pub within : last ≤ℤ pos last_day

abbrev pub AnswersLastDay : Declarations → Option (List ℕ) → Result ℤ Stop → Type 0
AnswersLastDay d until r = AnswersBy (CanBeLast d until) (IsDayFault d until) r

-- ---- flow lines

-- the lines of rows, behind what was there before
pub record AppendsLines (d : Declarations) (name : List ℕ) (rows : List FlowRow) (before after : List ℕ) : Type 0 where
  pub text : List ℕ
  pub lines : AreLines d name rows text
  pub appended : after ≡ before ++ text

-- the flow table of a contract
abbrev pub AnswersTable : Declarations → Contract → Environment → ℤ → Result FlowTable Stop → Type 0
AnswersTable d c fixings last r =
    AnswersBy (λ table. AreKnownFlows d c fixings (pos d.start) last table.rows.items) (IsMissingOne d fixings last c) r

-- ---- contract by contract

-- a last day and the fixings of a table
pub record IsOver (d : Declarations) (until : Option (List ℕ)) (table : Option (List ℕ)) (over : Over) : Type 0 where
  pub last : CanBeLast d until over.last
  pub fixings : HoldsFixings d table over.fixings

-- what stops a command over fixings: by a name, by the day, by acceptance or by a row
pub data StopsOverFixings (b : Book) (s : Selection) (until : Option (List ℕ)) (table : Option (List ℕ)) (f : Fault) : Type 0 where
  unknown : IsUnknownName b s.named f → StopsOverFixings b s until table f
  no_day : is_known s.named b ≡ true → IsDayFault b.declarations until f → StopsOverFixings b s until table f
  refused :
      (last : ℤ) → is_known s.named b ≡ true → IsLastDay b.declarations until last
      → IsRefusedOf b.declarations (used s.only b) f → StopsOverFixings b s until table f
  bad_row :
      (last : ℤ) → is_known s.named b ≡ true → IsLastDay b.declarations until last → AreAllAccepted b.declarations (used s.only b)
      → IsRowFault b.declarations table 2 f → StopsOverFixings b s until table f

-- these, or what stops a command over fixings
abbrev pub AnswersOver : Choice → ContractReader → Option (List ℕ) → Option (List ℕ) → Result Over Stop → Type 0
AnswersOver choice reader until table r =
    let d = declarations choice.decls.now in
    let s = selection choice in
    (text : List ℕ) → IsBegun text d reader
    → AnswersBy (IsOver d until table) (StopsIn text d (λ b. StopsOverFixings b s until table)) r

-- the table of a contract is summed with others, or its lines stand behind theirs
abbrev pub KeepsTable : Bool → Declarations → List ℕ → FlowTable → Listed → Listed → Type 0
KeepsTable true d name table before after = AddsTable table before.sum after.sum
KeepsTable false d name table before after = AppendsLines d name table.rows.items before.text.items after.text.items

-- the sum of the flow tables of contracts
pub record IsSumOfFlows (d : Declarations) (fixings : Environment) (last : ℤ) (entries : List (Name × Contract)) (sum : FlowSum) : Type 0 where
  pub tables : List FlowTable
  pub are_tables : AreTables d fixings last entries tables
  pub is_sum : IsSumSoFar tables sum

-- that of contracts if they are to be summed, else their lines
abbrev pub AreListed : Bool → Declarations → Environment → ℤ → Listed → List (Name × Contract) → Type 0
AreListed true d fixings last listed entries = IsSumOfFlows d fixings last entries listed.sum
AreListed false d fixings last listed entries = AreAllLines d fixings last entries listed.text.items

-- the flows of contracts, or the first read of theirs that is not fixed
pub record HasFlows (until : FlowsUntil) (kept : KeptFlows) (entries : List (Name × Contract)) : Type 0 where
  pub fixed : Holds (all_fixed (declarations until.choice.decls.now) until.fixings.now until.last entries) kept.missing
  pub listed :
      kept.missing ≡ None
      → AreListed until.summed (declarations until.choice.decls.now) until.fixings.now until.last kept.listed entries

-- the same with a contract more, whatever was before it
abbrev pub AddsFlows : FlowsUntil → Name × Contract → KeptFlows → KeptFlows → Type 0
AddsFlows until entry before after =
    (entries : List (Name × Contract)) → HasFlows until before entries → HasFlows until after (entries ++ entry ∷ [])

abbrev pub AnswersKeptFlows : FlowsUntil → ContractReader → Result (Tried × KeptFlows) Stop → Type 0
AnswersKeptFlows until reader r =
    let d = declarations until.choice.decls.now in
    (text : List ℕ) → IsBegun text d reader
    → AnswersBy (λ all. IsWalkedThrough text d (selection until.choice) (HasFlows until all.1) all.0) (IsBadText text) r

-- contracts that nothing stops: they are met and accepted, and each of their reads is fixed
pub record PassesOf (s : Selection) (until : FlowsUntil) (b : Book) : Type 0 where
  pub known : is_known s.named b ≡ true
  pub accepted : AreAllAccepted b.declarations (used s.only b)
  pub fixed : AreAllFixed b.declarations until.fixings.now until.last (used s.only b)

abbrev pub PassesFlows : FlowsUntil → Book → Type 0
PassesFlows until b = PassesOf (selection until.choice) until b

-- all flows of such contracts of a text
pub record ListsFlows (text : List ℕ) (until : FlowsUntil) (listed : Listed) : Type 0 where
  pub entries : List (Name × Contract)
  pub is_text : Text text (so_far (declarations until.choice.decls.now) entries)
  pub passes : PassesFlows until (so_far (declarations until.choice.decls.now) entries)
  pub are_listed :
      AreListed until.summed (declarations until.choice.decls.now) until.fixings.now until.last listed
      (used (selection until.choice).only (so_far (declarations until.choice.decls.now) entries))

-- what stops a command over fixings that are there
abbrev pub StopsFlows : FlowsUntil → Book → Fault → Type 0
StopsFlows until b f =
    StopsOn b (selection until.choice) (IsMissingOf b.declarations until.fixings.now until.last (used (selection until.choice).only b)) f

abbrev pub AnswersFlows : FlowsUntil → ContractReader → Result Listed Stop → Type 0
AnswersFlows until reader r =
    let d = declarations until.choice.decls.now in
    (text : List ℕ) → IsBegun text d reader → AnswersBy (ListsFlows text until) (StopsIn text d (StopsFlows until)) r

-- ---- sums, and what is told

-- the sum of the tables of accepted contracts, as many as a text can hold
pub record CanBeSummed (until : FlowsUntil) (sum : FlowSum) : Type 0 where
  pub entries : List (Name × Contract)
  pub few : length entries ≤ longest_file
  pub accepted : AreAllAccepted (declarations until.choice.decls.now) entries
  pub is_sum : IsSumOfFlows (declarations until.choice.decls.now) until.fixings.now until.last entries sum

-- the lines of what contracts with this sum pay together, whichever they are
abbrev pub AreLinesOfSum : FlowsUntil → FlowSum → List ℕ → Type 0
AreLinesOfSum until sum text =
    (entries : List (Name × Contract)) → IsSumOfFlows (declarations until.choice.decls.now) until.fixings.now until.last entries sum
    → AreSumLines (declarations until.choice.decls.now) until.fixings.now until.last entries text

-- the lines of contracts of a text that nothing stops, or those of their sum
pub record TellsLines (text : List ℕ) (until : FlowsUntil) (lines : Vec ℕ) : Type 0 where
  pub entries : List (Name × Contract)
  pub is_text : Text text (so_far (declarations until.choice.decls.now) entries)
  pub passes : PassesFlows until (so_far (declarations until.choice.decls.now) entries)
  pub are_lines :
      AreLinesAsked until.summed (declarations until.choice.decls.now) until.fixings.now until.last
      (used (selection until.choice).only (so_far (declarations until.choice.decls.now) entries)) lines.items

abbrev pub AnswersLinesAsked : FlowsUntil → ContractReader → Result (Vec ℕ) Stop → Type 0
AnswersLinesAsked until reader r =
    let d = declarations until.choice.decls.now in
    (text : List ℕ) → IsBegun text d reader → AnswersBy (TellsLines text until) (StopsIn text d (StopsFlows until)) r

-- the contracts that `flows` uses, and the name that is to be that of one
abbrev pub of_flows : FlowsAsked → Selection
of_flows asked = record { named = asked.contract; only = asked.contract }

-- whichever text is begun
abbrev pub TellsFlows : Choice → ContractReader → FlowsAsked → Option (List ℕ) → Result (Vec ℕ) Stop → Type 0
TellsFlows choice reader asked table r =
    (text : List ℕ) → IsBegun text (declarations choice.decls.now) reader → GoesDone (flows_of_text asked text table) r
