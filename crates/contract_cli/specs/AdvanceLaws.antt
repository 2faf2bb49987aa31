-- Laws of what `advance` leaves of a portfolio: its text is that of a portfolio on the new day; and what is left of what is left
-- carries the first contracts to the later day.
use Rattle.std.specs.Prelude.{◌≡◌, ◌≤◌, ◌-◌, ℕ, pos, List, [], ◌∷◌, Option, None}
use Rattle.term_model.specs.Books.{Book}
use Rattle.term_model.specs.declared.name.Name.{Name}
use Rattle.term_model.specs.Declarations.{Declarations}
use Rattle.term_model.specs.Environments.{Environment, Extends}
use Rattle.term_model.specs.Residuals.{Carries}
use Rattle.term_model.specs.Terms.{Contract}
use Rattle.contract_grammar.specs.Texts.{Text}
use Rattle.lifecycle_commands.specs.AdvancePromise.{CanAdvance, IsAdvanceText, IsRestBook, rest_declarations}
use Rattle.used_contracts.specs.AllAccepted.{AreAllAccepted}
use Rattle.command_words.specs.Commands.{AdvanceAsked}
use Rattle.used_contracts.specs.UsedContracts.{used}

-- the bytes are a text of what is left of a portfolio on the new day, in which no contract is refused
pub record IsTextOfRest (b : Book) (asked : AdvanceAsked) (table : Option (List ℕ)) (text : List ℕ) : Type 0 where
  pub day : ℕ
  pub fixings : Environment
  pub can : CanAdvance b asked table day fixings
  pub rest : Book
  pub is_rest : IsRestBook b fixings day rest
  pub spelled : Text text rest
  pub accepted : AreAllAccepted rest.declarations (used None rest)

abbrev pub AdvanceTextsAreTexts : Type 0
AdvanceTextsAreTexts =
    (bytes : List ℕ) (b : Book) (asked : AdvanceAsked) (table : Option (List ℕ)) (text : List ℕ)
    → Text bytes b → IsAdvanceText b asked table text → IsTextOfRest b asked table text

-- contracts that carry those of the same names, which stand on the start, over some days
abbrev pub AreCarried : Declarations → Environment → ℕ → List (Name × Contract) → List (Name × Contract) → Type 0
AreCarried d fixings days [] [] = Unit {0}
AreCarried d fixings days (entry ∷ entries) (left ∷ rest) =
    (left.0 ≡ entry.0) × Carries d entry.1 (pos d.start) fixings days left.1 × AreCarried d fixings days entries rest
AreCarried d fixings days _ _ = ⊥

-- what is left of what is left, under fixings that extend the first ones, stands on the later day and carries the first
-- contracts there
pub record IsCarriedBook (b : Book) (fixings : Environment) (day : ℕ) (rest : Book) : Type 0 where
  pub declarations : rest.declarations ≡ rest_declarations b.declarations day
  pub contracts : AreCarried b.declarations fixings (day - b.declarations.start) (used None b) rest.contracts

abbrev pub AdvancesCompose : Type 0
AdvancesCompose =
    (b rest last : Book) (fixings more : Environment) (day later : ℕ) → b.declarations.start ≤ day → day ≤ later → Extends fixings more
    → IsRestBook b fixings day rest → IsRestBook rest more later last → IsCarriedBook b more later last
