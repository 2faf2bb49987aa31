-- What the parts of `payoff` answer: the contract of a name that is kept of the contracts of a text, or what stops the command.
use Rattle.std.specs.Prelude.{◌≡◌, ℕ, List, Option, Some, Result, option_map}
use Rattle.std.specs.Map.{lookup}
use Rattle.std.specs.Str.{bytes_eq}
use Rattle.term_model.specs.declared.name.Name.{Name}
use Rattle.term_model.specs.declared.terms.Contr.{Contr}
use Rattle.term_model.specs.Declarations.{Declarations}
use Rattle.term_model.specs.Terms.{Contract, contract}
use Rattle.contract_parse.specs.NextContracts.{IsReadTo}
use Rattle.contract_grammar.specs.Texts.{Text}
use Rattle.contract_parse.specs.declared.next_contracts.ContractReader.{ContractReader}
use Rattle.used_contracts.specs.ChoosingParts.{StopsIn, so_far}
use Rattle.used_contracts.specs.ReadingParts.{IsBegun}
use Rattle.used_contracts.specs.Portfolios.{IsBadText}
use Rattle.text_commands.specs.PayoffStages.{NamesNone}
use Rattle.command_courses.specs.Stopping.{AnswersBy}
use Rattle.used_contracts.specs.UsedContracts.{contract_named}
use Rattle.command_courses.specs.declared.stop.Stop.{Stop}

-- the contract of a name among these is kept, or none where none has it
abbrev pub IsKept : List ℕ → List (Name × Contract) → Option Contr → Type 0
IsKept name entries kept = lookup (bytes_eq name) entries ≡ option_map contract kept

-- so many contracts of a text are read, and the one of the name is kept of them
pub record HasKept (text : List ℕ) (d : Declarations) (name : List ℕ)
    (reader : ContractReader) (kept : Option Contr) : Type 0 where
  pub entries : List (Name × Contract)
  pub read : IsReadTo text d entries reader
  pub is_kept : IsKept name entries kept

-- it is kept of all contracts of a text
pub record IsKeptOfText (text : List ℕ) (d : Declarations) (name : List ℕ)
    (kept : Option Contr) : Type 0 where
  pub entries : List (Name × Contract)
  pub is_text : Text text (so_far d entries)
  pub is_kept : IsKept name entries kept

-- whichever text is begun
abbrev pub AnswersKeptNamed :
    Declarations → ContractReader → List ℕ → Result (Option Contr) Stop → Type 0
AnswersKeptNamed d reader name r =
    (text : List ℕ) → IsBegun text d reader
    → AnswersBy (IsKeptOfText text d name) (IsBadText text) r

-- the contract of a name in a text with these declarations
pub record IsNamedIn (text : List ℕ) (d : Declarations) (name : List ℕ)
    (contr : Contr) : Type 0 where
  pub entries : List (Name × Contract)
  pub is_text : Text text (so_far d entries)
  pub named : contract_named name (so_far d entries) ≡ Some (contract contr)

-- such a one, or a fault of the text, or that of a name of no contract
abbrev pub AnswersNamed : Declarations → ContractReader → List ℕ → Result Contr Stop → Type 0
AnswersNamed d reader name r =
    (text : List ℕ) → IsBegun text d reader
    → AnswersBy (IsNamedIn text d name) (StopsIn text d (λ b. NamesNone b name)) r
