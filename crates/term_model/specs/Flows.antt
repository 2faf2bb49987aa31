-- What a contract pays: for each own day from 0 on, each ordered pair of parties and each asset, a whole number in
-- units of the contract's scale (the trace semantics of Bahr, Berthold and Elsman, ICFP 2015).
use Rattle.std.specs.Prelude.{ℕ, ℤ, pos, ◌+ℤ◌, ◌-ℤ◌, ◌*ℤ◌, neg_ℤ, ◌+◌, ◌-◌, ◌==◌, max, ◌&&◌, not, List, [], ◌∷◌, Some, None, if◌then◌else◌}
use Rattle.std.specs.Ordering.{int_eq}
use Rattle.decimal.specs.Rounding.{raised}
use Rattle.term_model.specs.Declarations.{Declarations}
use Rattle.term_model.specs.DayCounts.{Days}
use Rattle.term_model.specs.DayCounts.{Num as Count, Named, Sum}
use Rattle.term_model.specs.declared.values.Kind.{Kind}
use Rattle.term_model.specs.Terms.{Contract, Zero, Pay, Both, Scale, After, Let, Within}
use Rattle.term_model.specs.Environments.{Environment}
use Rattle.term_model.specs.Kinds.{kind_of, scale_of}
use Rattle.term_model.specs.Values.{Entry, kinds, num, kind_or, value_of, entry_of, first_true}

-- the number of a day count. A name of a template has none, and counts as 0: the model speaks of contracts at a setting
abbrev pub count_of : Days → ℕ
count_of (Count n) = n
count_of (Named t) = 0
count_of (Sum n ts) = n

-- the scale of a contract
abbrev pub scale_of_contract : Declarations → Contract → List Kind → ℕ
scale_of_contract d Zero ks = 0
scale_of_contract d (Pay a p q) ks = 0
scale_of_contract d (Both a b) ks = max (scale_of_contract d a ks) (scale_of_contract d b ks)
scale_of_contract d (Scale e c) ks = scale_of d e ks + scale_of_contract d c ks
scale_of_contract d (After n c) ks = scale_of_contract d c ks
scale_of_contract d (Let e c) ks = scale_of_contract d c (kind_or (kind_of d e ks) ∷ ks)
scale_of_contract d (Within e n a b) ks = max (scale_of_contract d a ks) (scale_of_contract d b ks)

-- who pays whom in what
pub record Flow : Type 0 where
  pub from : ℕ
  pub to : ℕ
  pub asset : ℕ

-- one unit of a from p to q
abbrev pub unit_flow : ℕ → ℕ → ℕ → Flow → ℤ
unit_flow a p q w =
    let there = (p == w.from) && (q == w.to) in
    let back = (p == w.to) && (q == w.from) in
    if (a == w.asset) && not (p == q) then (if there then pos 1 else (if back then neg_ℤ (pos 1) else pos 0)) else pos 0

abbrev pub on_day_zero : ℤ → ℤ → ℤ
on_day_zero n x = if int_eq n (pos 0) then x else pos 0

-- the flow on the contract's own day n, on frame f
abbrev pub flow_of : Declarations → Contract → List Entry → Environment → ℤ → ℤ → Flow → ℤ
flow_of d Zero g env f n w = pos 0
flow_of d (Pay a p q) g env f n w = on_day_zero n (unit_flow a p q w)
flow_of d (Both a b) g env f n w =
    let i = scale_of_contract d a (kinds g) in
    let j = scale_of_contract d b (kinds g) in
    raised (flow_of d a g env f n w) (max i j - i) +ℤ raised (flow_of d b g env f n w) (max i j - j)
flow_of d (Scale e c) g env f n w = num (value_of d e g env f) *ℤ flow_of d c g env f n w
flow_of d (After m c) g env f n w = flow_of d c g env (f +ℤ pos (count_of m)) (n -ℤ pos (count_of m)) w
flow_of d (Let e c) g env f n w = flow_of d c (entry_of d e g env f ∷ g) env f n w
flow_of d (Within e m a b) g env f n w =
    let i = scale_of_contract d a (kinds g) in
    let j = scale_of_contract d b (kinds g) in
    elim (first_true d e g env f (count_of m)) [
      | Some k ↦ raised (flow_of d a g env (f +ℤ pos k) (n -ℤ pos k) w) (max i j - i)
      | None ↦ raised (flow_of d b g env (f +ℤ pos (count_of m)) (n -ℤ pos (count_of m)) w) (max i j - j)
    ]

-- the amount at the portfolio's decimals, for a closed contract
abbrev pub amount_of : Declarations → Contract → Environment → ℤ → ℤ → Flow → ℤ
amount_of d c env f n w = raised (flow_of d c [] env f n w) (d.amounts - scale_of_contract d c [])
