-- A contract that has a type pays nothing before that day, whatever is observed and whatever its names stand for.
use Rattle.std.proofs.Common.{◌≡◌, ℕ, ℤ, pos, ◌+ℤ◌, ◌-ℤ◌, ◌*ℤ◌, ◌≤ℤ◌, ◌<ℤ◌, List, ◌∷◌, Option, Some, None, refl, ap₂, inl, arith}
use Rattle.std.proofs.lemmas.Int.{ints}
use Rattle.decimal.specs.Rounding.{raised}
use Rattle.term_model.specs.Declarations.{Declarations}
use Rattle.term_model.specs.Terms.{Contract, Zero, Pay, Both, Scale, After, Let, Within}
use Rattle.term_model.specs.Environments.{Environment}
use Rattle.term_model.specs.Kinds.{kind_of}
use Rattle.term_model.specs.Values.{Entry, kinds, kind_or, num, value_of, first_true}
use Rattle.term_model.specs.Flows.{Flow, count_of, flow_of}
use Rattle.term_model.specs.Times.{TypedContract, lowered_by}
use Rattle.term_model.proofs.FlowFacts.{flow_idle, one_zero}

product_zero : (x y : ℤ) → y ≡ pos 0 → x *ℤ y ≡ pos 0
product_zero x y h = grind (arith, ints)

sum_zero : (x y : ℤ) (k l : ℕ) → x ≡ pos 0 → y ≡ pos 0 → raised x k +ℤ raised y l ≡ pos 0
sum_zero x y k l h j = ap₂ (λ (a b : ℤ). a +ℤ b) (one_zero x k h) (one_zero y l j)

branch_zero : (o : Option ℕ) (x : ℕ → ℤ) (y : ℤ) (k l : ℕ) → ((i : ℕ) → x i ≡ pos 0) → y ≡ pos 0 → elim o [ Some i ↦ raised (x i) k | None ↦ raised y l ] ≡ pos 0
branch_zero (Some i) x y k l h j = one_zero (x i) k (h i)
branch_zero None x y k l h j = one_zero y l j

pub flow_quiet : (d : Declarations) (c : Contract) (g : List ℤ) (t : ℤ) (xs : List Entry) (env : Environment) (f n : ℤ) (w : Flow) → TypedContract g c t → n <ℤ t → flow_of d c xs env f n w ≡ pos 0
flow_quiet d Zero g t xs env f n w p i = refl
flow_quiet d (Pay a from to) g t xs env f n w p i =
    let j : t ≤ℤ pos 0 = p in
    flow_idle d (Pay a from to) xs env f n w (inl (omega (arith, ints)))
flow_quiet d (Both a b) g t xs env f n w p i =
    sum_zero _ _ _ _ (flow_quiet d a g t xs env f n w p.0 i) (flow_quiet d b g t xs env f n w p.1 i)
flow_quiet d (Scale e c) g t xs env f n w p i =
    let s : ℤ = p.0 in
    let j : t ≤ℤ s = p.1 in
    product_zero (num (value_of d e xs env f)) _ (flow_quiet d c g s xs env f n w p.3 (omega (arith, ints)))
flow_quiet d (After m c) g t xs env f n w p i =
    let k : ℕ = count_of m in
    flow_quiet d c (lowered_by k g) (t -ℤ pos k) xs env (f +ℤ pos k) (n -ℤ pos k) w p (omega (arith, ints))
flow_quiet d (Let e c) g t xs env f n w p i =
    flow_quiet d c (p.0 ∷ g) t (record { value = value_of d e xs env f; kind = kind_or (kind_of d e (kinds xs)) } ∷ xs) env f n w p.2 i
flow_quiet d (Within e m a b) g t xs env f n w p i =
    let k : ℕ = count_of m in
    branch_zero (first_true d e xs env f k) _ _ _ _ (λ j. flow_quiet d a g t xs env (f +ℤ pos j) (n -ℤ pos j) w p.1 (omega (arith, ints)))
    (flow_quiet d b (lowered_by k g) (t -ℤ pos k) xs env (f +ℤ pos k) (n -ℤ pos k) w p.2 (omega (arith, ints)))
