-- What a run shows, by its status and its command, over the bytes that were read and written: each command has a record of its own.
-- `check` accepts exactly what the written rules type, and accepted contracts are causal. `flows` writes what accepted contracts pay,
-- the same in every environment that extends the fixings; `positions` and `settle` write what each party comes to by it, and
-- payments that bring it there. `advance` writes the flows that are due and contracts whose later flows are those of the first, shifted,
-- in every admitted environment that extends the fixings; and so does `novate`, but that in one contract a new party stands in the
-- place of an old one. `payoff` writes code that means its contract. And `value`, on code that means a contract, writes the discounted
-- sum of what the contract still pays between two parties (Bahr, Berthold and Elsman, ICFP 2015; Annenkov and Elsman, PPDP 2018);
-- `scenarios` writes such a sum for each scenario of a table, and then their total. `migrate` writes a text of the same portfolio, and
-- `expand` one of contracts that pay what plans say. `sample` writes the summary of contracts that are defined.
use Rattle.std.specs.Prelude.{◌≡◌, ◌↔◌, ◌+◌, ◌⊎◌, ℕ, ℤ, pos, Bool, true, List, Option, Some, slice_get}
use Rattle.std.specs.List.{All}
use Rattle.term_model.specs.Acceptance.{IsAccepted}
use Rattle.term_model.specs.Books.{Book}
use Rattle.term_model.specs.Declarations.{Declarations}
use Rattle.term_model.specs.Environments.{Environment, Extends, IsAdmitted}
use Rattle.term_model.specs.Instances.{instance}
use Rattle.term_model.specs.Terms.{Contract}
use Rattle.contract_grammar.specs.Texts.{Text}
use Rattle.contract_print.specs.Canon.{IsCanon}
use Rattle.contract_print.specs.Migrated.{migrated}
use Rattle.payoff_terms.specs.CodeBooks.{CodeBook}
use Rattle.payoff_lang.specs.CodeFiles.{CodeText}
use Rattle.payoff_terms.specs.CodeValues.{Asked as Question}
use Rattle.payoff_terms.specs.Meaning.{CodeMeans, Counting, Remaining, counting, of_past}
use Rattle.payoff_terms.specs.PresentValues.{present_value}
use Rattle.scenario_set.specs.Scenarios.{NamedMap}
use Rattle.scenario_set.specs.TotalLines.{total_text}
use Rattle.scenario_set.specs.Totals.{AreTotals, value_at}
use Rattle.scenario_set.specs.declared.outcomes.Totals.{Totals}
use Rattle.report.specs.ValueLines.{value_text}
use Rattle.sample.specs.Summary.{IsSummary}
use Rattle.schedule_forms.specs.Expansions.{expansion}
use Rattle.schedule_forms.specs.LawsSchedules.{PaysAsPlanned}
use Rattle.schedule_forms.specs.PlanBooks.{PlanBook, expanded_book}
use Rattle.schedule_forms.specs.PlanSpelling.{PlanText}
use Rattle.command_words.specs.Commands.{Advance, AdvanceAsked, Check, Expand, Flows, FlowsAsked, Migrate, NettingAsked, Novate, NovateAsked, Payoff}
use Rattle.command_words.specs.Commands.{PayoffAsked, Positions, Sample, Scenarios, ScenariosAsked, Settle, Value, ValueAsked, files_of}
use Rattle.used_contracts.specs.AllAccepted.{AreAllAccepted}
use Rattle.used_contracts.specs.AllFixed.{AreAllFixed}
use Rattle.used_contracts.specs.UsedContracts.{is_known, used}
use Rattle.flow_commands.specs.FlowsPromise.{AreLinesAsked, IsLastDay}
use Rattle.lifecycle_commands.specs.AdvancePromise.{IsAdvanceText}
use Rattle.text_commands.specs.CheckPromise.{IsCheckText}
use Rattle.command_courses.specs.FixingTables.{AreFixings}
use Rattle.command_courses.specs.Inputs.{file_at, table_if_named}
use Rattle.lifecycle_commands.specs.NovatePromise.{IsNovateText}
use Rattle.valuation_commands.specs.ScenariosPromise.{CanTotal, inquiry_in}
use Rattle.valuation_commands.specs.ValuePromise.{CanValue, question, setting_by}
use Rattle.command_courses.specs.declared.status.Status.{Status}
use Rattle.command_courses.specs.declared.status.Status.TheVariants as status
use Rattle.contract_cli.specs.AdvanceLaws.{IsTextOfRest}
use Rattle.contract_cli.specs.NettingLaws.{HasPositions, HasSettled}
use Rattle.contract_cli.specs.NovateLaws.{IsTextOfNovated}
use Rattle.contract_cli.specs.PayoffLaws.{IsTextOfCode}
use Rattle.contract_cli.specs.Ran.{Ran}
use Rattle.contract_cli.specs.Reading.{WereRead}
use Rattle.contract_cli.specs.RunPromise.{Names}
use Rattle.contract_cli.specs.Seen.{Edge, WritesAll}

-- `check` has written a verdict on each contract: it is accepted by the written rules, and then causal, or refused by the
-- first of them that fails
pub record HasChecked (edge : Edge) (file : List ℕ) (s : Status) : Type 0 where
  pub book : Book
  pub inputs : List (List ℕ)
  pub text : List ℕ
  pub ran : Ran edge (Check file) book inputs text
  pub verdicts : IsCheckText book s text

-- `flows` has written what contracts pay, all of them or the one of a name, which are accepted: the lines of their flow tables up to
-- the last day, or of the table of what they pay together, which are the same in every environment that extends the fixings
pub record HasListed (edge : Edge) (asked : FlowsAsked) : Type 0 where
  pub book : Book
  pub inputs : List (List ℕ)
  pub text : List ℕ
  pub ran : Ran edge (Flows asked) book inputs text
  pub known : is_known asked.contract book ≡ true
  pub last : ℤ
  pub is_last : IsLastDay book.declarations asked.until last
  pub accepted : AreAllAccepted book.declarations (used asked.contract book)
  pub fixings : Environment
  pub are_fixings : AreFixings book.declarations (table_if_named asked.fixings inputs) fixings
  pub fixed : AreAllFixed book.declarations fixings last (used asked.contract book)
  pub lines : AreLinesAsked asked.net book.declarations fixings last (used asked.contract book) text

-- `advance` has written what is due before the new day, and a text of contracts that are accepted, reduced, and carry the old
-- ones to that day
pub record HasAdvanced (edge : Edge) (asked : AdvanceAsked) : Type 0 where
  pub book : Book
  pub inputs : List (List ℕ)
  pub text : List ℕ
  pub ran : Ran edge (Advance asked) book inputs text
  pub advanced : IsAdvanceText book asked (Some (file_at inputs 1)) text
  pub rest : IsTextOfRest book asked (Some (file_at inputs 1)) text

-- `novate` has written what is due before the new day, and a text of contracts that are accepted: that of the name pays on each day
-- to come between two parties what the old one pays then between all that the renaming takes to them, and every other one carries
-- the old one
pub record HasNovated (edge : Edge) (asked : NovateAsked) : Type 0 where
  pub book : Book
  pub inputs : List (List ℕ)
  pub text : List ℕ
  pub ran : Ran edge (Novate asked) book inputs text
  pub novated : IsNovateText book asked (Some (file_at inputs 1)) text
  pub rest : IsTextOfNovated book asked (Some (file_at inputs 1)) text

-- `payoff` has written a text of code that means the contract, and is accepted at every setting at which the contract is
pub record HasCompiled (edge : Edge) (asked : PayoffAsked) : Type 0 where
  pub book : Book
  pub inputs : List (List ℕ)
  pub text : List ℕ
  pub ran : Ran edge (Payoff asked) book inputs text
  pub code : IsTextOfCode book asked text

-- a contract at the numbers that are set for `value`
abbrev pub at_numbers : ValueAsked → Declarations → Contract → Contract
at_numbers asked d c = instance (setting_by d asked.settings) c

-- it is accepted there
abbrev pub IsAcceptedAtNumbers : ValueAsked → Declarations → Contract → Type 0
IsAcceptedAtNumbers asked d c = IsAccepted d (at_numbers asked d c)

-- what a contract that stands on the start is worth, at the numbers that are set, where payments gone by count nothing
abbrev pub value_left : Declarations → ValueAsked → Contract → Environment → Question → ℤ
value_left d asked c env asks = present_value d (at_numbers asked d c) env (pos d.start) (counting (pos 0) asks)

-- a number is what a contract is worth by a curve, where the contract is accepted at the numbers that are set: the sum of what it
-- still pays from the one party to the other in the asset, each day with its discount factor, in every admitted environment that
-- extends the fixings
abbrev pub IsWorthOf : Declarations → ValueAsked → Environment → Question → ℤ → Contract → Type 0
IsWorthOf d asked fixings asks amount c =
    IsAcceptedAtNumbers asked d c
    → (env : Environment) → IsAdmitted d env → Extends fixings env → amount ≡ value_left d asked c env asks

-- a number is the present value of a contract under some declarations, over the fixings and the curve that `value` has read
abbrev pub IsPresentValue :
    (b : CodeBook) (asked : ValueAsked) (inputs : List (List ℕ)) → CanValue b asked (file_at inputs 1) (file_at inputs 2)
    → Declarations → ℤ → Contract → Type 0
IsPresentValue b asked inputs can d amount c = IsWorthOf d asked can.fixings (question can.day can.curve can.flow) amount c

-- `value` has written the present value of every contract that the code means with what is left to pay
pub record HasValued (edge : Edge) (asked : ValueAsked) : Type 0 where
  pub book : CodeBook
  pub inputs : List (List ℕ)
  pub read : WereRead edge.files.contents (files_of (Value asked)) inputs
  pub spelled : CodeText (file_at inputs 0) book
  pub can : CanValue book asked (file_at inputs 1) (file_at inputs 2)
  pub amount : ℤ
  pub worth :
      (c : Contract) → CodeMeans book.declarations book.code c Remaining
      → IsPresentValue book asked inputs can book.declarations amount c
  pub written : WritesAll edge.sink (value_text amount (book.declarations.amounts + 9))

-- each value is what a contract is worth in its scenario, where the contract is accepted at the numbers that are set: in every
-- admitted environment that extends the scenario's map, with what is gone by as the code counts it
abbrev pub AreWorthIn : Declarations → ValueAsked → Question → List NamedMap → List ℤ → Contract → Counting → Type 0
AreWorthIn d asked asks set values c v =
    IsAcceptedAtNumbers asked d c
    → (i : ℕ) (s : NamedMap) → slice_get set i ≡ Some s
    → (env : Environment) → IsAdmitted d env → Extends s.map env
    → value_at values i ≡ present_value d (at_numbers asked d c) env (pos d.start) (counting (of_past v) asks)

-- `scenarios` has written for each scenario the present value there of every contract that the code means, and of these values
-- the total, the mean, the first least and the first greatest
pub record HasTotalled (edge : Edge) (asked : ScenariosAsked) : Type 0 where
  pub book : CodeBook
  pub inputs : List (List ℕ)
  pub read : WereRead edge.files.contents (files_of (Scenarios asked)) inputs
  pub spelled : CodeText (file_at inputs 0) book
  pub can : CanTotal book asked.value (file_at inputs 1) (file_at inputs 2)
  pub totals : Totals
  pub are_totals : AreTotals (inquiry_in can.asks) can.asks.set totals
  pub worth :
      (c : Contract) (v : Counting) → CodeMeans book.declarations book.code c v
      → AreWorthIn book.declarations asked.value (inquiry_in can.asks).asked can.asks.set totals.values.items c v
  pub written : WritesAll edge.sink (total_text can.asks.set totals asked.mean (book.declarations.amounts + 9))

-- a portfolio in version 2 has the verdicts and the flow lines that it has as it is, and no others
pub record SaysTheSame (b : Book) : Type 0 where
  pub verdicts : (s : Status) (text : List ℕ) → IsCheckText b s text ↔ IsCheckText (migrated b) s text
  pub flows :
      (net : Bool) (only : Option (List ℕ)) (fixings : Environment) (last : ℤ) (text : List ℕ)
      → AreLinesAsked net b.declarations fixings last (used only b) text
      ↔ AreLinesAsked net (migrated b).declarations fixings last (used only (migrated b)) text

-- `migrate` has written the canonical text of the portfolio in version 2, which is a text of it; and in that version it has the
-- same verdicts and flow lines
pub record HasMigrated (edge : Edge) (file : List ℕ) : Type 0 where
  pub book : Book
  pub inputs : List (List ℕ)
  pub text : List ℕ
  pub ran : Ran edge (Migrate file) book inputs text
  pub is_canon : IsCanon text (migrated book)
  pub is_text : Text text (migrated book)
  pub same : SaysTheSame book

-- the contract that a plan is written for pays what the plan says
abbrev pub ArePaidAsPlanned : PlanBook → Type 0
ArePaidAsPlanned plans = All (λ entry. PaysAsPlanned plans.declarations (expansion entry.1) entry.1) plans.plans

-- `expand` has read a schedule file, and written the canonical text of the portfolio of its expansions, which is a text of it; each
-- contract is accepted, and pays what its plan says
pub record HasExpanded (edge : Edge) (file : List ℕ) : Type 0 where
  pub plans : PlanBook
  pub inputs : List (List ℕ)
  pub text : List ℕ
  pub read : WereRead edge.files.contents (files_of (Expand file)) inputs
  pub spelled : PlanText (file_at inputs 0) plans
  pub written : WritesAll edge.sink text
  pub is_canon : IsCanon text (expanded_book plans)
  pub is_text : Text text (expanded_book plans)
  pub accepted : AreAllAccepted plans.declarations (expanded_book plans).contracts
  pub paid : ArePaidAsPlanned plans

-- `sample` has written the summary of the sample of so many contracts
pub record HasSampled (edge : Edge) (count : ℕ) : Type 0 where
  pub text : List ℕ
  pub summary : IsSummary count text
  pub written : WritesAll edge.sink text

-- the status says that the verdicts were written
abbrev pub Judged : Status → Type 0
Judged s = (s ≡ status.Done) ⊎ (s ≡ status.Refused)

pub record Headline (words : List (List ℕ)) (edge : Edge) (s : Status) : Type 0 where
  pub checks : (file : List ℕ) → Names words (Check file) → Judged s → HasChecked edge file s
  pub lists : (asked : FlowsAsked) → Names words (Flows asked) → s ≡ status.Done → HasListed edge asked
  pub balances : (asked : NettingAsked) → Names words (Positions asked) → s ≡ status.Done → HasPositions edge asked
  pub settles : (asked : NettingAsked) → Names words (Settle asked) → s ≡ status.Done → HasSettled edge asked
  pub advances : (asked : AdvanceAsked) → Names words (Advance asked) → s ≡ status.Done → HasAdvanced edge asked
  pub novates : (asked : NovateAsked) → Names words (Novate asked) → s ≡ status.Done → HasNovated edge asked
  pub compiles : (asked : PayoffAsked) → Names words (Payoff asked) → s ≡ status.Done → HasCompiled edge asked
  pub values : (asked : ValueAsked) → Names words (Value asked) → s ≡ status.Done → HasValued edge asked
  pub totals : (asked : ScenariosAsked) → Names words (Scenarios asked) → s ≡ status.Done → HasTotalled edge asked
  pub migrates : (file : List ℕ) → Names words (Migrate file) → s ≡ status.Done → HasMigrated edge file
  pub expands : (file : List ℕ) → Names words (Expand file) → s ≡ status.Done → HasExpanded edge file
  pub samples : (count : ℕ) → Names words (Sample count) → s ≡ status.Done → HasSampled edge count
