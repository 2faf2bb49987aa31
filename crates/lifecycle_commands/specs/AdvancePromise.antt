-- What the command `advance` says of a portfolio over fixings and a new day: for each contract in order, at the numbers that
-- the templates are declared with, a line for each row of its flow table from the start to the day before the new one, each
-- line a comment; and then the canonical text of a portfolio that stands on the new day, with what is left of each contract
-- under its name.
use Rattle.std.specs.Prelude.{◌≡◌, ◌≤◌, ◌-◌, ◌-ℤ◌, ℕ, ℤ, pos, List, [], ◌∷◌, ◌++◌, Option, None, Ok, codes}
use Rattle.term_model.specs.declared.name.Name.{Name}
use Rattle.term_model.specs.Books.{Book}
use Rattle.term_model.specs.Declarations.{Declarations}
use Rattle.term_model.specs.Environments.{Environment}
use Rattle.term_model.specs.Limits.{last_start}
use Rattle.term_model.specs.Terms.{Contract}
use Rattle.contract_print.specs.Canon.{IsCanon}
use Rattle.fixing_files.specs.Days.{day_of}
use Rattle.flow_eval.specs.FlowAnswers.{AreKnownFlows}
use Rattle.flow_eval.specs.declared.flow_table.FlowRow.{FlowRow}
use Rattle.advance_step.specs.Advancing.{IsResidual}
use Rattle.report.specs.FlowLines.{IsFlowLine}
use Rattle.used_contracts.specs.AllAccepted.{AreAllAccepted}
use Rattle.command_words.specs.Commands.{AdvanceAsked}
use Rattle.used_contracts.specs.AllFixed.{AreAllFixed}
use Rattle.command_courses.specs.FixingTables.{AreFixings}
use Rattle.used_contracts.specs.UsedContracts.{used}

-- ---- the new day

-- the greatest day that a portfolio can stand on
abbrev pub greatest_new_day : ℤ
greatest_new_day = pos last_start

-- the day that a word names, from the start to the greatest
pub record IsNewDay (d : Declarations) (word : List ℕ) (day : ℕ) : Type 0 where
  pub named : day_of d.origin word ≡ Ok (pos day)
  pub no_sooner : d.start ≤ day
  pub no_later : day ≤ last_start

-- the last of the days gone by
abbrev pub last_gone : ℕ → ℤ
last_gone day = pos day -ℤ pos 1

-- ---- what is due

-- a line as a comment
abbrev pub commented : List ℕ → List ℕ
commented line = codes "# " ++ line

-- a comment for each row of the named contract
abbrev pub AreComments : Declarations → List ℕ → List FlowRow → List ℕ → Type 0
AreComments d name [] text = text ≡ []
AreComments d name (row ∷ rows) text =
    (line : List ℕ) × (rest : List ℕ) × IsFlowLine d name row line × AreComments d name rows rest × (text ≡ commented line ++ rest)

-- what a contract that stands on the start pays up to a last day, the same in every environment that extends the fixings
pub record IsDueText (d : Declarations) (fixings : Environment) (last : ℤ) (name : List ℕ) (c : Contract) (text : List ℕ) : Type 0 where
  pub rows : List FlowRow
  pub flows : AreKnownFlows d c fixings (pos d.start) last rows
  pub comments : AreComments d name rows text

-- the same of contracts, one after another
abbrev pub AreDueLines : Declarations → Environment → ℤ → List (Name × Contract) → List ℕ → Type 0
AreDueLines d fixings last [] text = text ≡ []
AreDueLines d fixings last (entry ∷ entries) text =
    (first : List ℕ) × (rest : List ℕ) × IsDueText d fixings last entry.0 entry.1 first
    × AreDueLines d fixings last entries rest × (text ≡ first ++ rest)

-- ---- what is left

-- the declarations of what is left
abbrev pub rest_declarations : Declarations → ℕ → Declarations
rest_declarations d day = record d { start = day }

-- what is left of contracts that stand on the start, on a day, each under its name and in their order
abbrev pub AreResiduals : Declarations → Environment → ℕ → List (Name × Contract) → List (Name × Contract) → Type 0
AreResiduals d fixings day [] [] = Unit {0}
AreResiduals d fixings day (entry ∷ entries) (left ∷ rest) =
    (left.0 ≡ entry.0) × IsResidual d fixings (pos d.start) (day - d.start) entry.1 left.1 × AreResiduals d fixings day entries rest
AreResiduals d fixings day _ _ = ⊥

-- what is left of a portfolio
pub record IsRestBook (b : Book) (fixings : Environment) (day : ℕ) (rest : Book) : Type 0 where
  pub declarations : rest.declarations ≡ rest_declarations b.declarations day
  pub contracts : AreResiduals b.declarations fixings day (used None b) rest.contracts

-- ---- the answer

-- nothing stops the command: the day is in range, the contracts are accepted, the rows are taken and each read of the days
-- gone by is fixed
pub record CanAdvance (b : Book) (asked : AdvanceAsked) (table : Option (List ℕ)) (day : ℕ) (fixings : Environment) : Type 0 where
  pub is_day : IsNewDay b.declarations asked.to day
  pub accepted : AreAllAccepted b.declarations (used None b)
  pub are_fixings : AreFixings b.declarations table fixings
  pub fixed : AreAllFixed b.declarations fixings (last_gone day) (used None b)

-- what is due before a day, and the text of what is left on it, with a change
pub record IsAdvancedWith (change : Book → Book) (b : Book) (day : ℕ) (fixings : Environment) (text : List ℕ) : Type 0 where
  pub due : List ℕ
  pub are_due : AreDueLines b.declarations fixings (last_gone day) (used None b) due
  pub rest : Book
  pub is_rest : IsRestBook b fixings day rest
  pub canon : List ℕ
  pub is_canon : IsCanon canon (change rest)
  pub is : text ≡ due ++ canon

-- and as it is
abbrev pub IsAdvanced : Book → ℕ → Environment → List ℕ → Type 0
IsAdvanced b day fixings text = IsAdvancedWith (λ rest. rest) b day fixings text

-- the whole answer
pub record IsAdvanceText (b : Book) (asked : AdvanceAsked) (table : Option (List ℕ)) (text : List ℕ) : Type 0 where
  pub day : ℕ
  pub fixings : Environment
  pub can : CanAdvance b asked table day fixings
  pub advanced : IsAdvanced b day fixings text
