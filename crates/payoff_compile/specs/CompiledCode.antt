-- What the compiler promises of the code that it answers for a contract, and the cut of the code that it answers for code.
use Rattle.std.specs.Prelude.{ℕ, ℤ, pos, ◌≤◌, ◌≡◌, ◌*◌, List}
use Rattle.term_model.specs.Declarations.{Declarations}
use Rattle.term_model.specs.Terms.{Contract}
use Rattle.term_model.specs.Acceptance.{IsAccepted}
use Rattle.term_model.specs.Sizes.{nodes_of_contract}
use Rattle.term_model.specs.Instances.{instance}
use Rattle.term_model.specs.Environments.{Environment}
use Rattle.term_model.specs.Values.{Entry}
use Rattle.term_model.specs.Factors.{IsCurve}
use Rattle.payoff_terms.specs.Code.{PayoffCode}
use Rattle.payoff_terms.specs.CodeValues.{Asked, code_value}
use Rattle.payoff_terms.specs.CodeSizes.{nodes_of_code}
use Rattle.payoff_terms.specs.CodeAcceptance.{IsAcceptedCode}
use Rattle.payoff_terms.specs.Compiled.{cut_code}
use Rattle.payoff_terms.specs.Meaning.{CodeMeans, Remaining, Everything, counting}
use Rattle.payoff_terms.specs.WellFormedCode.{IsClosedCode}
use Rattle.payoff_terms.specs.PrintableCode.{IsPrintableCode}
use Rattle.payoff_compile.specs.Literals.{ContractHasSmallLiterals}

-- code is accepted at every setting at which the contract is
abbrev pub IsAcceptedWith : Declarations → Contract → PayoffCode → Type 0
IsAcceptedWith d c k = (xs : List ℕ) → IsAccepted d (instance xs c) → IsAcceptedCode d xs k

-- plain code of a contract: it means the contract and its cut code what is left of it, both are accepted at every setting
-- at which the contract is, have few nodes and are closed, and texts can stand for them
pub record IsPlainCode (d : Declarations) (c : Contract) (k : PayoffCode) : Type 0 where
  pub means : CodeMeans d k c Everything
  pub means_cut : CodeMeans d (cut_code k) c Remaining
  pub accepted : IsAcceptedWith d c k × IsAcceptedWith d c (cut_code k)
  pub nodes : nodes_of_code k ≤ nodes_of_contract c
  pub nodes_cut : nodes_of_code (cut_code k) ≤ 2 * nodes_of_contract c
  pub closed : IsClosedCode d k × IsClosedCode d (cut_code k)
  pub printable : ContractHasSmallLiterals c → IsPrintableCode d k × IsPrintableCode d (cut_code k)

-- k is worth what plain code is worth where payments gone by count nothing, whatever is asked
abbrev pub IsWorthTheRest : PayoffCode → PayoffCode → Type 0
IsWorthTheRest k plain =
    (d : Declarations) (g : List Entry) (env : Environment) (xs : List ℕ) (a : Asked) (b : ℤ) → IsCurve a.curve
    → code_value d k g env xs a b ≡ code_value d plain g env xs (counting (pos 0) a) b

-- and has at most twice its nodes
pub record CountsTheRest (k plain : PayoffCode) : Type 0 where
  pub values : IsWorthTheRest k plain
  pub nodes : nodes_of_code k ≤ 2 * nodes_of_code plain
