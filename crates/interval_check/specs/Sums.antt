-- What is added up over days: the sizes of flows; and the turnover, which is the sizes of all single payments, in both
-- directions and before any is netted against another.
pub use Rattle.term_model.specs.Values.{entry_of}
use Rattle.std.specs.Prelude.{ℕ, zero, suc, ℤ, pos, ◌+ℤ◌, ◌+◌, ◌-◌, ◌*◌, ◌^◌, max, unsigned_abs, List, ◌∷◌, Some, None}
use Rattle.term_model.specs.Declarations.{Declarations}
use Rattle.term_model.specs.Terms.{Contract, Zero, Pay, Both, Scale, After, Let, Within}
use Rattle.term_model.specs.Environments.{Environment}
use Rattle.term_model.specs.Values.{Entry, kinds, num, value_of, first_true}
use Rattle.term_model.specs.Flows.{Flow, count_of, scale_of_contract, unit_flow, flow_of, amount_of}

-- the sizes of n numbers, from the first on
abbrev pub sum_of_sizes : ℕ → (ℕ → ℤ) → ℕ
sum_of_sizes zero x = 0
sum_of_sizes (suc n) x = sum_of_sizes n x + unsigned_abs (x n)

-- what a contract pays on n of its own days, from day m on
abbrev pub sum_of_flows : Declarations → Contract → List Entry → Environment → ℤ → ℤ → ℕ → Flow → ℕ
sum_of_flows d c es env f m n w = sum_of_sizes n (λ i. flow_of d c es env f (m +ℤ pos i) w)

-- the same of a closed contract at the portfolio's decimals
abbrev pub sum_of_amounts : Declarations → Contract → Environment → ℤ → ℤ → ℕ → Flow → ℕ
sum_of_amounts d c env f m n w = sum_of_sizes n (λ i. amount_of d c env f (m +ℤ pos i) w)

-- the sizes of all single payments between two parties in an asset
abbrev pub turnover_of : Declarations → Contract → List Entry → Environment → ℤ → Flow → ℕ
turnover_of d Zero es env f w = 0
turnover_of d (Pay a p q) es env f w = unsigned_abs (unit_flow a p q w)
turnover_of d (Both a b) es env f w =
    let i = scale_of_contract d a (kinds es) in
    let j = scale_of_contract d b (kinds es) in
    turnover_of d a es env f w * 10 ^ (max i j - i) + turnover_of d b es env f w * 10 ^ (max i j - j)
turnover_of d (Scale e c) es env f w = turnover_of d c es env f w * unsigned_abs (num (value_of d e es env f))
turnover_of d (After n c) es env f w = turnover_of d c es env (f +ℤ pos (count_of n)) w
turnover_of d (Let e c) es env f w = turnover_of d c (entry_of d e es env f ∷ es) env f w
turnover_of d (Within e n a b) es env f w =
    let i = scale_of_contract d a (kinds es) in
    let j = scale_of_contract d b (kinds es) in
    elim (first_true d e es env f (count_of n)) [
      | Some k ↦ turnover_of d a es env (f +ℤ pos k) w * 10 ^ (max i j - i)
      | None ↦ turnover_of d b es env (f +ℤ pos (count_of n)) w * 10 ^ (max i j - j)
    ]
