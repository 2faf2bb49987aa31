-- The law of what `payoff` prints of a contract: it is a text of a code file that stands on the portfolio's declarations, and
-- the code means the contract.
use Rattle.std.specs.Prelude.{◌≡◌, ◌≤◌, ◌*◌, ℕ, Bool, true, false, List}
use Rattle.term_model.specs.Books.{Book}
use Rattle.term_model.specs.Declarations.{Declarations, at_one_scale}
use Rattle.term_model.specs.Sizes.{nodes_of_contract}
use Rattle.term_model.specs.Terms.{Contract}
use Rattle.contract_grammar.specs.Texts.{Text}
use Rattle.payoff_terms.specs.Code.{PayoffCode}
use Rattle.payoff_terms.specs.CodeBooks.{CodeBook}
use Rattle.payoff_lang.specs.CodeCanon.{IsCanonOfCode}
use Rattle.payoff_lang.specs.CodeFiles.{CodeText}
use Rattle.payoff_terms.specs.CodeSizes.{nodes_of_code}
use Rattle.payoff_terms.specs.Meaning.{CodeMeans, Counting, Everything, Remaining}
use Rattle.payoff_compile.specs.CompiledCode.{IsAcceptedWith}
use Rattle.command_words.specs.Commands.{PayoffAsked}
use Rattle.text_commands.specs.PayoffPromise.{CanCompile, IsPayoffText}

-- plain code counts what is gone by as well, at face value, and cut code what is left to be paid
abbrev pub counted : Bool → Counting
counted true = Everything
counted false = Remaining

-- the most nodes of code for a contract: those of the contract, or with a cut for each payment twice as many
abbrev pub most_nodes : Bool → Contract → ℕ
most_nodes true c = nodes_of_contract c
most_nodes false c = 2 * nodes_of_contract c

-- code that means a contract, is accepted at every setting at which the contract is, and has few nodes
pub record IsCodeFor (d : Declarations) (c : Contract) (plain : Bool) (k : PayoffCode) : Type 0 where
  pub means : CodeMeans d k c (counted plain)
  pub accepted : IsAcceptedWith d c k
  pub few : nodes_of_code k ≤ most_nodes plain c

-- the bytes are the canonical text of a code file, and so a text of it: of the portfolio's declarations in version 1, where each
-- asset has the decimals of the amounts, and the contract's name, and with code for the contract
pub record IsTextOfCode (b : Book) (asked : PayoffAsked) (text : List ℕ) : Type 0 where
  pub contr : Contract
  pub can : CanCompile b asked contr
  pub file : CodeBook
  pub is_canon : IsCanonOfCode text file
  pub spelled : CodeText text file
  pub declarations : file.declarations ≡ at_one_scale b.declarations
  pub name : file.name ≡ asked.contract
  pub code : IsCodeFor (at_one_scale b.declarations) contr asked.plain file.code

abbrev pub PayoffTextsMean : Type 0
PayoffTextsMean =
    (bytes : List ℕ) (b : Book) (asked : PayoffAsked) (text : List ℕ) → Text bytes b → IsPayoffText b asked text → IsTextOfCode b asked text
