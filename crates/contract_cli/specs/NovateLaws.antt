-- Laws of what `novate` leaves of a portfolio. Its text is that of a portfolio on the new day. The contract of the name pays
-- between two parties on each day to come what the first one pays then between all that the renaming takes to them; every other
-- contract pays what the first one pays.
use Rattle.std.specs.Prelude.{◌≡◌, ◌↔◌, ◌+◌, ◌-◌, ◌+ℤ◌, ℕ, ℤ, pos, List, [], ◌∷◌, Option, None}
use Rattle.std.specs.List.{All}
use Rattle.term_model.specs.declared.name.Name.{Name}
use Rattle.term_model.specs.Acceptance.{AreFacts, Facts}
use Rattle.term_model.specs.Books.{Book}
use Rattle.term_model.specs.Declarations.{Declarations}
use Rattle.term_model.specs.Environments.{Environment, Extends, IsAdmitted}
use Rattle.term_model.specs.Flows.{Flow, amount_of}
use Rattle.term_model.specs.Residuals.{Carries}
use Rattle.term_model.specs.Terms.{Contract}
use Rattle.contract_grammar.specs.Texts.{Text}
use Rattle.exposure.specs.LiteralLists.{literals_in}
use Rattle.exposure.specs.Renaming.{AreSources, CarriesRenamed, sum_between}
use Rattle.command_words.specs.Commands.{NovateAsked}
use Rattle.lifecycle_commands.specs.AdvancePromise.{CanAdvance, IsRestBook, rest_declarations}
use Rattle.used_contracts.specs.AllAccepted.{AreAllAccepted}
use Rattle.lifecycle_commands.specs.NovatePromise.{IsNovateText, KnowsParties, novated_book, novated_entry}
use Rattle.used_contracts.specs.UsedContracts.{used}

-- ---- a contract that takes over another, with the new party in the place of the old one

-- rest, m days after frame f, pays and reads on the days to come what the contract with the new party does; so it pays between
-- two parties what the contract itself pays between all that the renaming takes to them
pub record TakesOver (d : Declarations) (c : Contract) (f : ℤ) (fixings : Environment) (m old new : ℕ) (rest : Contract) : Type 0 where
  pub carries : CarriesRenamed d c f fixings m old new rest
  pub sums :
      (env : Environment) → IsAdmitted d env → Extends fixings env
      → (n : ℕ) (w : Flow) (ps qs : List ℕ) → AreSources old new w.from ps → AreSources old new w.to qs
      → amount_of d rest env (f +ℤ pos m) (pos n) w ≡ sum_between ps qs w.asset (λ v. amount_of d c env f (pos (m + n)) v)

-- what stands some days later for a contract of a portfolio: one that takes it over, under the name; one that carries it, under any
-- other name
pub record IsHandedOn (name : List ℕ) (old new : ℕ) (d : Declarations) (fixings : Environment) (days : ℕ)
    (entry left : Name × Contract) : Type 0 where
  pub name_is : left.0 ≡ entry.0
  pub named : name ≡ entry.0 → TakesOver d entry.1 (pos d.start) fixings days old new left.1
  pub other : (name ≡ entry.0 → ⊥) → Carries d entry.1 (pos d.start) fixings days left.1

abbrev pub AreHandedOn :
    List ℕ → ℕ → ℕ → Declarations → Environment → ℕ → List (Name × Contract) → List (Name × Contract) → Type 0
AreHandedOn name old new d fixings days [] [] = Unit {0}
AreHandedOn name old new d fixings days (entry ∷ entries) (left ∷ rest) =
    IsHandedOn name old new d fixings days entry left × AreHandedOn name old new d fixings days entries rest
AreHandedOn name old new d fixings days _ _ = ⊥

-- so of the contracts of a portfolio, on a day
pub record IsHandedOnBook (name : List ℕ) (old new : ℕ) (b : Book) (fixings : Environment) (day : ℕ) (rest : Book) : Type 0 where
  pub declarations : rest.declarations ≡ rest_declarations b.declarations day
  pub contracts : AreHandedOn name old new b.declarations fixings (day - b.declarations.start) (used None b) rest.contracts

-- ---- the text

-- a contract has the facts and the literals of another
pub record IsJudgedAs (d : Declarations) (c other : Contract) : Type 0 where
  pub facts : (facts : Facts) → AreFacts d other facts ↔ AreFacts d c facts
  pub literals : literals_in other ≡ literals_in c

-- the bytes are a text of what is left of a portfolio on the new day, with the new party in the named contract: no contract of it
-- is refused, each has the facts and the literals that it has with the old party, and they stand for the first ones
pub record IsTextOfNovated (b : Book) (asked : NovateAsked) (table : Option (List ℕ)) (text : List ℕ) : Type 0 where
  pub old : ℕ
  pub new : ℕ
  pub names : KnowsParties b asked old new
  pub day : ℕ
  pub fixings : Environment
  pub can : CanAdvance b asked.advance table day fixings
  pub rest : Book
  pub is_rest : IsRestBook b fixings day rest
  pub spelled : Text text (novated_book asked.contract old new rest)
  pub accepted : AreAllAccepted rest.declarations (used None (novated_book asked.contract old new rest))
  pub judged : All (λ entry. IsJudgedAs rest.declarations entry.1 (novated_entry asked.contract old new entry).1) rest.contracts
  pub handed_on : IsHandedOnBook asked.contract old new b fixings day (novated_book asked.contract old new rest)

abbrev pub NovateTextsAreTexts : Type 0
NovateTextsAreTexts =
    (bytes : List ℕ) (b : Book) (asked : NovateAsked) (table : Option (List ℕ)) (text : List ℕ)
    → Text bytes b → IsNovateText b asked table text → IsTextOfNovated b asked table text
