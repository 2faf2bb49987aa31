-- Laws of the code of a contract against the contract, for the check and the values of code: totals, sizes, and that it is
-- accepted where the contract is; what the compiler and the cut promise; and that code may be printed.
use Rattle.std.specs.Prelude.{ℕ, ◌≤◌, ◌+◌, ◌*◌, ◌^◌, List, []}
use Rattle.term_model.specs.Declarations.{Declarations}
use Rattle.term_model.specs.Terms.{Contract}
use Rattle.term_model.specs.WellFormed.{IsClosed}
use Rattle.term_model.specs.Acceptance.{IsAccepted}
use Rattle.term_model.specs.Flows.{scale_of_contract}
use Rattle.term_model.specs.Bounds.{aligned_total}
use Rattle.term_model.specs.Sizes.{nodes_of_contract, height_of_contract, work_of_contract, reach}
use Rattle.term_model.specs.Instances.{instance, declared_numbers}
use Rattle.contract_grammar.specs.Writable.{IsWritableTerm}
use Rattle.payoff_terms.specs.Code.{PayoffCode}
use Rattle.payoff_terms.specs.Compiled.{code_of, cut_code}
use Rattle.payoff_terms.specs.CodeSizes.{nodes_of_code, height_of_code, work_of_code, loop_days}
use Rattle.payoff_terms.specs.CodeTotals.{aligned_code_total}
use Rattle.payoff_terms.specs.CodeAcceptance.{IsAcceptedCode}
use Rattle.payoff_terms.specs.WritableCode.{IsWritableCode}
use Rattle.payoff_compile.specs.Literals.{ContractHasSmallLiterals}
use Rattle.payoff_compile.specs.CompiledCode.{IsPlainCode, CountsTheRest}

abbrev pub TotalsAreCarried : Type 0
TotalsAreCarried =
    (d : Declarations) (c : Contract) (xs : List ℕ) → scale_of_contract d (instance xs c) [] ≤ d.amounts
    → aligned_code_total d (code_of c) [] ≤ 10 ^ 10 * aligned_total d (instance xs c) []

pub record SizesCarried (c : Contract) (xs : List ℕ) : Type 0 where
  pub nodes : nodes_of_code (code_of c) ≤ nodes_of_contract (instance xs c)
  pub height : height_of_code (code_of c) ≤ height_of_contract (instance xs c)
  pub work : work_of_code xs (code_of c) ≤ work_of_contract (instance xs c)
  pub days : loop_days xs (code_of c) ≤ reach (instance xs c)
  pub cut_nodes : nodes_of_code (cut_code (code_of c)) ≤ 2 * nodes_of_contract (instance xs c)
  pub cut_height : height_of_code (cut_code (code_of c)) ≤ height_of_contract (instance xs c) + 1
  pub cut_work : work_of_code xs (cut_code (code_of c)) ≤ work_of_contract (instance xs c)
  pub cut_days : loop_days xs (cut_code (code_of c)) ≤ reach (instance xs c)

abbrev pub SizesAreCarried : Type 0
SizesAreCarried = (c : Contract) (xs : List ℕ) → SizesCarried c xs

-- compiled code and cut code are accepted at every setting at which the contract is
abbrev pub CodeIsAccepted : Type 0
CodeIsAccepted =
    (d : Declarations) (c : Contract) (xs : List ℕ) → IsClosed d c → IsAccepted d (instance xs c)
    → IsAcceptedCode d xs (code_of c) × IsAcceptedCode d xs (cut_code (code_of c))

-- so what the compiler promises holds of the code of every contract that it takes
abbrev pub CodeIsPlain : Type 0
CodeIsPlain =
    (d : Declarations) (c : Contract) → IsClosed d c → IsAccepted d (instance (declared_numbers d) c) → IsPlainCode d c (code_of c)

abbrev pub CutCodeCountsTheRest : Type 0
CutCodeCountsTheRest = (k : PayoffCode) → CountsTheRest (cut_code k) k

-- plain code and its cut may be printed, where the literals of the contract are small
abbrev pub PlainCodeIsWritable : Type 0
PlainCodeIsWritable =
    (d : Declarations) (c : Contract) (k : PayoffCode) → IsPlainCode d c k → ContractHasSmallLiterals c
    → IsWritableCode k × IsWritableCode (cut_code k)

-- as they are where the contract may be printed, and so in each contract that was read
abbrev pub WritableTermsHaveSmallLiterals : Type 0
WritableTermsHaveSmallLiterals = (c : Contract) → IsWritableTerm c → ContractHasSmallLiterals c
