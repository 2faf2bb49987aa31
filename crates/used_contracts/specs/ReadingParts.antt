-- The contracts of a text, as they are read one at a time.
use Rattle.std.specs.Prelude.{◌<◌, [], ℕ, List, Option, Some, None, IfOk, IfSome, Result}
use Rattle.term_model.specs.declared.decls.Decls.{Decls}
use Rattle.term_model.specs.declared.name.Name.{Name}
use Rattle.term_model.specs.Declarations.{Declarations, declarations}
use Rattle.term_model.specs.Terms.{Contract}
use Rattle.contract_parse.specs.NextContracts.{IsNext, IsReadTo, bytes_left}
use Rattle.contract_grammar.specs.Texts.{Text}
use Rattle.contract_parse.specs.declared.next_contracts.ContractReader.{ContractReader}
use Rattle.contract_parse.specs.declared.next_contracts.NextContract.{NextContract}
use Rattle.command_courses.specs.Stopping.{AnswersBy}
use Rattle.command_courses.specs.declared.stop.Stop.{Stop}
use Rattle.used_contracts.specs.Portfolios.{IsBadText}

-- no contract of a text with these declarations is read yet
abbrev pub IsBegun : List ℕ → Declarations → ContractReader → Type 0
IsBegun text d reader = IsReadTo text d [] reader

abbrev pub StartsReading : List ℕ → Result (Decls × ContractReader) Stop → Type 0
StartsReading text r = AnswersBy (λ start. IsBegun text (declarations start.0) start.1) (IsBadText text) r

-- the contract behind these, or the end of the text
abbrev pub IsNextOrEnd : List ℕ → Declarations → List (Name × Contract) → ContractReader → Option NextContract → Type 0
IsNextOrEnd text d entries after (Some next) = IsNext text d entries after next
IsNextOrEnd text d entries after None = Text text (record { declarations = d; contracts = entries })

-- whichever contracts of whichever text were read before
abbrev pub ReadsNext : Declarations → ContractReader → ContractReader → Result (Option NextContract) Stop → Type 0
ReadsNext d before after r =
    (text : List ℕ) (entries : List (Name × Contract)) → IsReadTo text d entries before
    → AnswersBy (IsNextOrEnd text d entries after) (IsBadText text) r

-- if there is a next one, less of the text is left
abbrev pub LeavesLess : ContractReader → ContractReader → Result (Option NextContract) Stop → Type 0
LeavesLess before after r = IfOk r (λ next. IfSome next (λ _. bytes_left after < bytes_left before))

-- a text with these declarations is begun
abbrev pub HasBegun : Declarations → ContractReader → Type 0
HasBegun d reader = (text : List ℕ) × IsBegun text d reader
