-- What the command `payoff` says of the named contract of a portfolio: the canonical text of a code file that has the
-- portfolio's declarations in version 1 and the contract's name, and for code the cut code of the contract as it is written,
-- with the names of its templates, or its plain code where that is asked. The contract is tried under the portfolio's own
-- declarations.
use Rattle.std.specs.Prelude.{◌≡◌, ℕ, Bool, true, false, List, Some}
use Rattle.term_model.specs.declared.rules.Rule.{Rule}
use Rattle.term_model.specs.Acceptance.{IsAccepted, IsRefusal}
use Rattle.term_model.specs.Books.{Book}
use Rattle.term_model.specs.Declarations.{Declarations, at_one_scale}
use Rattle.term_model.specs.Instances.{instance, declared_numbers}
use Rattle.term_model.specs.Terms.{Contract}
use Rattle.payoff_terms.specs.Code.{PayoffCode}
use Rattle.payoff_terms.specs.CodeBooks.{CodeBook}
use Rattle.payoff_lang.specs.CodeCanon.{IsCanonOfCode}
use Rattle.payoff_terms.specs.Compiled.{code_of, cut_code}
use Rattle.command_words.specs.Commands.{PayoffAsked}
use Rattle.used_contracts.specs.UsedContracts.{contract_named}

-- a contract with the defaults for its templates is accepted, or refused by a rule at a node
abbrev pub IsAcceptedAtDefaults : Declarations → Contract → Type 0
IsAcceptedAtDefaults d c = IsAccepted d (instance (declared_numbers d) c)

abbrev pub IsRefusedAtDefaults : Declarations → Contract → Rule → ℕ → Type 0
IsRefusedAtDefaults d c rule node = IsRefusal d (instance (declared_numbers d) c) rule node

-- the code that is asked for: plain, or with each payment cut once it is gone by
abbrev pub code_asked : Bool → Contract → PayoffCode
code_asked true c = code_of c
code_asked false c = cut_code (code_of c)

-- code under a name, on declarations
abbrev pub file_of : Declarations → List ℕ → PayoffCode → CodeBook
file_of d name k = record { declarations = d; name = name; code = k }

-- the code file of a contract: on the declarations in version 1, where each asset has the decimals of the amounts
abbrev pub code_file_of : Declarations → PayoffAsked → Contract → CodeBook
code_file_of d asked c = file_of (at_one_scale d) asked.contract (code_asked asked.plain c)

-- nothing stops the command: the name is that of a contract, and this one is accepted
pub record CanCompile (b : Book) (asked : PayoffAsked) (c : Contract) : Type 0 where
  pub named : contract_named asked.contract b ≡ Some c
  pub accepted : IsAcceptedAtDefaults b.declarations c

-- the whole answer
pub record IsPayoffText (b : Book) (asked : PayoffAsked) (text : List ℕ) : Type 0 where
  pub contr : Contract
  pub can : CanCompile b asked contr
  pub is_canon : IsCanonOfCode text (code_file_of b.declarations asked contr)
