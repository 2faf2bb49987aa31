-- What the command `novate` says of a portfolio over fixings, a new day, and the names of a contract and of two parties: what
-- `advance` says, but that what is left of that contract stands in the text with the new party in the place of the old one. The
-- lines of what is due keep the old party.
use Rattle.std.specs.Prelude.{◌≡◌, ℕ, true, map, List, Option, Some, if◌then◌else◌}
use Rattle.std.specs.Str.{bytes_eq}
use Rattle.term_model.specs.declared.name.Name.{Name}
use Rattle.term_model.specs.Books.{Book}
use Rattle.term_model.specs.Environments.{Environment}
use Rattle.term_model.specs.Terms.{Contract}
use Rattle.contract_grammar.specs.Names.{index_in}
use Rattle.exposure.specs.Renaming.{renamed}
use Rattle.command_words.specs.Commands.{NovateAsked}
use Rattle.lifecycle_commands.specs.AdvancePromise.{CanAdvance, IsAdvancedWith}
use Rattle.used_contracts.specs.UsedContracts.{is_known}

-- ---- the portfolio in which one party stands for another

-- the contract of a name with the new party, and every other contract as it is
abbrev pub novated_entry : List ℕ → ℕ → ℕ → Name × Contract → Name × Contract
novated_entry name old new entry = (entry.0, if bytes_eq name entry.0 then renamed old new entry.1 else entry.1)

abbrev pub novated : List ℕ → ℕ → ℕ → List (Name × Contract) → List (Name × Contract)
novated name old new contracts = map (novated_entry name old new) contracts

abbrev pub novated_book : List ℕ → ℕ → ℕ → Book → Book
novated_book name old new b = record b { contracts = novated name old new b.contracts }

-- ---- the answer

-- the three names are declared, and these are the places of the parties
pub record KnowsParties (b : Book) (asked : NovateAsked) (old new : ℕ) : Type 0 where
  pub contract : is_known (Some asked.contract) b ≡ true
  pub old_is : index_in b.declarations.parties asked.old ≡ Some old
  pub new_is : index_in b.declarations.parties asked.new ≡ Some new

-- what is due before a day, and the text of what is left on it with the new party in the named contract
abbrev pub IsNovated : List ℕ → ℕ → ℕ → Book → ℕ → Environment → List ℕ → Type 0
IsNovated name old new b day fixings text = IsAdvancedWith (novated_book name old new) b day fixings text

-- the whole answer
pub record IsNovateText (b : Book) (asked : NovateAsked) (table : Option (List ℕ)) (text : List ℕ) : Type 0 where
  pub old : ℕ
  pub new : ℕ
  pub names : KnowsParties b asked old new
  pub day : ℕ
  pub fixings : Environment
  pub can : CanAdvance b asked.advance table day fixings
  pub novated : IsNovated asked.contract old new b day fixings text
