-- What the command `flows` says of a portfolio over fixings: for each contract that is asked for, in order and at the
-- numbers that the templates are declared with, a line for each row of its flow table from the start to a last day, or in
-- their place the lines of what these contracts pay together.
use Rattle.std.specs.Prelude.{◌≡◌, ℕ, ℤ, pos, Bool, true, false, List, [], ◌∷◌, ◌++◌, Option, Some, None, codes, map}
use Rattle.term_model.specs.declared.name.Name.{Name}
use Rattle.term_model.specs.Declarations.{Declarations}
use Rattle.term_model.specs.Environments.{Environment, Extends}
use Rattle.term_model.specs.Flows.{Flow}
use Rattle.term_model.specs.Terms.{Contract}
use Rattle.flow_eval.specs.FlowAnswers.{AreKnownFlows}
use Rattle.flow_eval.specs.Tables.{IsTable, paid_by}
use Rattle.flow_eval.specs.declared.flow_table.FlowRow.{FlowRow}
use Rattle.flow_eval.specs.declared.flow_table.FlowTable.{FlowTable}
use Rattle.report.specs.FlowLines.{IsFlowLine}
use Rattle.report.specs.SumTables.{together}
use Rattle.command_courses.specs.Days.{IsDayAsked, greatest_day}

-- the last day that is asked for: that of a word, or the greatest
abbrev pub IsLastDay : Declarations → Option (List ℕ) → ℤ → Type 0
IsLastDay d None last = last ≡ greatest_day
IsLastDay d (Some word) last = IsDayAsked d greatest_day word last

-- the flow tables of contracts that stand on the start, one after another, the same in every environment that extends the fixings
abbrev pub AreTables : Declarations → Environment → ℤ → List (Name × Contract) → List FlowTable → Type 0
AreTables d fixings last [] [] = Unit {0}
AreTables d fixings last (entry ∷ entries) (table ∷ tables) =
    AreKnownFlows d entry.1 fixings (pos d.start) last table.rows.items × AreTables d fixings last entries tables
AreTables d fixings last _ _ = ⊥

-- a line for each row of the named contract
abbrev pub AreLines : Declarations → List ℕ → List FlowRow → List ℕ → Type 0
AreLines d name [] text = text ≡ []
AreLines d name (row ∷ rows) text =
    (line : List ℕ) × (rest : List ℕ) × IsFlowLine d name row line × AreLines d name rows rest × (text ≡ line ++ rest)

-- the lines of the flows of a contract that stands on the start, the same in every environment that extends the fixings
pub record AreFlowLines (d : Declarations) (fixings : Environment) (last : ℤ) (name : List ℕ) (c : Contract) (text : List ℕ) : Type 0 where
  pub rows : List FlowRow
  pub flows : AreKnownFlows d c fixings (pos d.start) last rows
  pub lines : AreLines d name rows text

-- the lines of contracts, one contract after another
abbrev pub AreAllLines : Declarations → Environment → ℤ → List (Name × Contract) → List ℕ → Type 0
AreAllLines d fixings last [] text = text ≡ []
AreAllLines d fixings last (entry ∷ entries) text =
    (first : List ℕ) × (rest : List ℕ) × AreFlowLines d fixings last entry.0 entry.1 first
    × AreAllLines d fixings last entries rest × (text ≡ first ++ rest)

-- what contracts that stand on the start pay together on a day from one party to another in an asset
abbrev pub paid_together : Declarations → List (Name × Contract) → Environment → ℤ → Flow → ℤ
paid_together d entries env = together (map (λ entry. paid_by d entry.1 env (pos d.start)) entries)

-- the lines of what contracts pay together, under the name *, the same in every environment that extends the fixings
pub record AreSumLines (d : Declarations) (fixings : Environment) (last : ℤ)
    (entries : List (Name × Contract)) (text : List ℕ) : Type 0 where
  pub rows : List FlowRow
  pub table : (env : Environment) → Extends fixings env → IsTable (paid_together d entries env) (pos d.start) last rows
  pub lines : AreLines d (codes "*") rows text

-- the lines of contracts, or of their sum
abbrev pub AreLinesAsked : Bool → Declarations → Environment → ℤ → List (Name × Contract) → List ℕ → Type 0
AreLinesAsked false d fixings last entries text = AreAllLines d fixings last entries text
AreLinesAsked true d fixings last entries text = AreSumLines d fixings last entries text
