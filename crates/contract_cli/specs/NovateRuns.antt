-- Laws of two runs, of which the second reads what `novate` has printed. `check` accepts it. What `flows` prints of it are the
-- later flows of the first contracts, with the new party in the place of the old one in the contract of the name. And a later
-- `advance` of it leaves contracts that stand for the first ones too.
use Rattle.std.specs.Prelude.{◌≡◌, ◌++◌, ℕ, ℤ, pos, Bool, true, false, List, [], ◌∷◌, codes}
use Rattle.term_model.specs.declared.name.Name.{Name}
use Rattle.term_model.specs.Declarations.{Declarations}
use Rattle.term_model.specs.Environments.{Environment, Extends, IsAdmitted}
use Rattle.term_model.specs.Terms.{Contract}
use Rattle.flow_eval.specs.Tables.{IsTable, paid_by}
use Rattle.flow_eval.specs.declared.flow_table.FlowRow.{FlowRow}
use Rattle.command_words.specs.Commands.{AdvanceAsked, Check, Flows, FlowsAsked, Novate, NovateAsked, files_of}
use Rattle.flow_commands.specs.FlowsCourse.{table_named}
use Rattle.command_courses.specs.FixingTables.{AreFixings}
use Rattle.flow_commands.specs.FlowsPromise.{AreLines, IsLastDay, paid_together}
use Rattle.lifecycle_commands.specs.NovatePromise.{novated, novated_book}
use Rattle.used_contracts.specs.UsedContracts.{used}
use Rattle.command_courses.specs.declared.status.Status.{Status}
use Rattle.command_courses.specs.declared.status.Status.TheVariants as status
use Rattle.contract_cli.specs.ExpandLaws.{Lists}
use Rattle.contract_cli.specs.Headline.{HasAdvanced, HasNovated}
use Rattle.contract_cli.specs.NovateLaws.{IsHandedOnBook}
use Rattle.contract_cli.specs.Reading.{WereRead}
use Rattle.contract_cli.specs.RunLaws.{IsOrNoMemory, IsReadWhole}
use Rattle.contract_cli.specs.RunPromise.{Meets, Names}
use Rattle.contract_cli.specs.Seen.{Edge, WritesAll}
use Rattle.contract_cli.specs.TwoRuns.{Advances, Passes}

-- `novate` has printed a portfolio
pub record Novates (words : List (List ℕ)) (edge : Edge) (asked : NovateAsked) : Type 0 where
  pub named : Names words (Novate asked)
  pub done : Meets words edge status.Done

-- ---- `novate`, and then `check`

-- `check` accepts each contract of what `novate` has printed: it ends well, or for want of memory
abbrev pub NovatedTextsAreAccepted : Type 0
NovatedTextsAreAccepted =
    (words more : List (List ℕ)) (first second : Edge) (s : Status) (asked : NovateAsked) (file : List ℕ) (inputs : List (List ℕ))
    → Novates words first asked → Meets more second s → IsReadWhole more second (Check file) inputs → Passes first second file
    → IsOrNoMemory status.Done s

-- ---- `novate`, and then `flows`

-- the lines of what a contract that stands on the start pays from a later day to a last one, the same in every admitted
-- environment that extends the fixings
pub record AreLaterLines (d : Declarations) (fixings : Environment) (day : ℕ) (last : ℤ)
    (name : List ℕ) (c : Contract) (text : List ℕ) : Type 0 where
  pub rows : List FlowRow
  pub table :
      (env : Environment) → IsAdmitted d env → Extends fixings env → IsTable (paid_by d c env (pos d.start)) (pos day) last rows
  pub lines : AreLines d name rows text

-- the same of contracts, one contract after another
abbrev pub AreAllLaterLines : Declarations → Environment → ℕ → ℤ → List (Name × Contract) → List ℕ → Type 0
AreAllLaterLines d fixings day last [] text = text ≡ []
AreAllLaterLines d fixings day last (entry ∷ entries) text =
    (first : List ℕ) × (rest : List ℕ) × AreLaterLines d fixings day last entry.0 entry.1 first
    × AreAllLaterLines d fixings day last entries rest × (text ≡ first ++ rest)

-- the lines of what contracts pay together, under the name *
pub record AreLaterSums (d : Declarations) (fixings : Environment) (day : ℕ) (last : ℤ)
    (entries : List (Name × Contract)) (text : List ℕ) : Type 0 where
  pub rows : List FlowRow
  pub table :
      (env : Environment) → IsAdmitted d env → Extends fixings env → IsTable (paid_together d entries env) (pos day) last rows
  pub lines : AreLines d (codes "*") rows text

-- the lines of contracts, or of their sum
abbrev pub AreLaterLinesAsked : Bool → Declarations → Environment → ℕ → ℤ → List (Name × Contract) → List ℕ → Type 0
AreLaterLinesAsked false d fixings day last entries text = AreAllLaterLines d fixings day last entries text
AreLaterLinesAsked true d fixings day last entries text = AreLaterSums d fixings day last entries text

-- the lines that `flows` has written of what `novate` has printed are those of the first contracts that are asked for, from the
-- new day on, with the new party in the place of the old one in the contract of the name; over fixings that extend the first ones
pub record ListsNovated (first : Edge) (asked : NovateAsked) (second : Edge) (listed : FlowsAsked) : Type 0 where
  pub novating : HasNovated first asked
  pub inputs : List (List ℕ)
  pub read : WereRead second.files.contents (files_of (Flows listed)) inputs
  pub last : ℤ
  pub is_last : IsLastDay novating.rest.rest.declarations listed.until last
  pub fixings : Environment
  pub are_fixings : AreFixings novating.rest.rest.declarations (table_named listed inputs) fixings
  pub text : List ℕ
  pub lines :
      Extends novating.rest.fixings fixings
      → AreLaterLinesAsked listed.net novating.book.declarations fixings novating.rest.day last
      (novated asked.contract novating.rest.old novating.rest.new (used listed.contract novating.book)) text
  pub written : WritesAll second.sink text

abbrev pub NovatedTextsAreListed : Type 0
NovatedTextsAreListed =
    (words more : List (List ℕ)) (first second : Edge) (asked : NovateAsked) (listed : FlowsAsked)
    → Novates words first asked → Lists more second listed → Passes first second listed.portfolio
    → ListsNovated first asked second listed

-- ---- `novate`, and then `advance`

-- the portfolio that the second run has read is the one that the first has left; and the contracts that the second has left stand
-- for those that the first has read, where the later fixings extend the first ones
pub record AdvancesNovated (first : Edge) (asked : NovateAsked) (second : Edge) (later : AdvanceAsked) : Type 0 where
  pub earlier : HasNovated first asked
  pub next : HasAdvanced second later
  pub same_portfolio : next.book ≡ novated_book asked.contract earlier.rest.old earlier.rest.new earlier.rest.rest
  pub hands_on :
      Extends earlier.rest.fixings next.rest.fixings
      → IsHandedOnBook asked.contract earlier.rest.old earlier.rest.new earlier.book next.rest.fixings next.rest.day next.rest.rest

abbrev pub NovatedTextsAdvance : Type 0
NovatedTextsAdvance =
    (words more : List (List ℕ)) (first second : Edge) (asked : NovateAsked) (later : AdvanceAsked)
    → Novates words first asked → Advances more second later → Passes first second later.portfolio
    → AdvancesNovated first asked second later
