-- What an evaluation of a contract in 128 bits needs, by structure: each factor, bound expression and test is safe on each
-- day on which it is evaluated, and what each part pays is at most 10^27 in size, as it is, aligned to the whole, and at
-- the portfolio's decimals; and so is all that it pays between two parties in an asset, before it is netted.
use Rattle.std.specs.Prelude.{ℕ, ℤ, pos, ◌+ℤ◌, ◌-◌, ◌*◌, ◌^◌, ◌≤◌, max, unsigned_abs, List, ◌∷◌}
use Rattle.decimal.specs.Rounding.{raised}
use Rattle.term_model.specs.Declarations.{Declarations}
use Rattle.term_model.specs.Terms.{Contract, Zero, Pay, Both, Scale, After, Let, Within}
use Rattle.term_model.specs.Environments.{Environment}
use Rattle.term_model.specs.Values.{Entry, kinds}
use Rattle.term_model.specs.Flows.{Flow, count_of, scale_of_contract, flow_of}
use Rattle.term_model.specs.Bounds.{greatest_total}
use Rattle.interval_check.specs.Sums.{entry_of, turnover_of}
use Rattle.interval_check.specs.Safety.{CanEvaluate}

-- an amount is at most 10^27 in size
abbrev pub IsPayable : ℤ → Type 0
IsPayable m = unsigned_abs m ≤ greatest_total

-- what a contract pays on its own days fits, at its scale and at the portfolio's decimals
pub record HasSafeFlows (d : Declarations) (c : Contract) (es : List Entry) (env : Environment) (f : ℤ) : Type 0 where
  pub scale : scale_of_contract d c (kinds es) ≤ d.amounts
  pub payable : (n : ℤ) (w : Flow) → IsPayable (flow_of d c es env f n w)
  pub aligned : (n : ℤ) (w : Flow) → IsPayable (raised (flow_of d c es env f n w) (d.amounts - scale_of_contract d c (kinds es)))
  pub turnover : (w : Flow) → turnover_of d c es env f w ≤ greatest_total
  pub aligned_turnover : (w : Flow) → turnover_of d c es env f w * 10 ^ (d.amounts - scale_of_contract d c (kinds es)) ≤ greatest_total

-- what the two parts of a contract pay, on frames i and j, fits at the greater of their scales
pub record AlignPayments (d : Declarations) (a b : Contract) (es : List Entry) (env : Environment) (i j : ℤ) : Type 0 where
  pub left : (n : ℤ) (w : Flow) → IsPayable (raised (flow_of d a es env i n w)
      (max (scale_of_contract d a (kinds es)) (scale_of_contract d b (kinds es)) - scale_of_contract d a (kinds es)))
  pub right : (n : ℤ) (w : Flow) → IsPayable (raised (flow_of d b es env j n w)
      (max (scale_of_contract d a (kinds es)) (scale_of_contract d b (kinds es)) - scale_of_contract d b (kinds es)))

-- the parts of a contract are safe
abbrev pub HasSafeContractParts : Declarations → Contract → List Entry → Environment → ℤ → Type 0
HasSafeContractParts d Zero es env f = Unit {0}
HasSafeContractParts d (Pay a p q) es env f = Unit {0}
HasSafeContractParts d (Both a b) es env f =
    (HasSafeFlows d a es env f × HasSafeContractParts d a es env f)
    × (HasSafeFlows d b es env f × HasSafeContractParts d b es env f)
    × AlignPayments d a b es env f f
HasSafeContractParts d (Scale e c) es env f =
    CanEvaluate d e es env f × (HasSafeFlows d c es env f × HasSafeContractParts d c es env f)
HasSafeContractParts d (After n c) es env f =
    HasSafeFlows d c es env (f +ℤ pos (count_of n)) × HasSafeContractParts d c es env (f +ℤ pos (count_of n))
HasSafeContractParts d (Let e c) es env f =
    CanEvaluate d e es env f
    × (HasSafeFlows d c (entry_of d e es env f ∷ es) env f × HasSafeContractParts d c (entry_of d e es env f ∷ es) env f)
HasSafeContractParts d (Within e n a b) es env f =
    ((i : ℕ) → i ≤ count_of n →
    CanEvaluate d e es env (f +ℤ pos i)
    × (HasSafeFlows d a es env (f +ℤ pos i) × HasSafeContractParts d a es env (f +ℤ pos i))
    × AlignPayments d a b es env (f +ℤ pos i) (f +ℤ pos (count_of n)))
    × (HasSafeFlows d b es env (f +ℤ pos (count_of n)) × HasSafeContractParts d b es env (f +ℤ pos (count_of n)))

-- a contract can be evaluated, with these entries for its names, on frame f
abbrev pub IsSafeContract : Declarations → Contract → List Entry → Environment → ℤ → Type 0
IsSafeContract d c es env f = HasSafeFlows d c es env f × HasSafeContractParts d c es env f
