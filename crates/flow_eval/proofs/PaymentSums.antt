-- What the payments of a contract come to at a slot is what the contract pays by the model.
use Rattle.std.proofs.Common.{◌≡◌, ℕ, ℤ, pos, neg_ℤ, ◌+ℤ◌, ◌-ℤ◌, ◌*ℤ◌, ◌≤ℤ◌, ◌≤◌, ◌<◌, ◌+◌, ◌-◌, ◌^◌, max, true, false, if◌then◌else◌, Bool, List, [], ◌∷◌, Option, Some, None, refl, ap, sym, ◌∙◌, arith}
use Rattle.std.proofs.Math.IntN.{*ℤ_comm, zero-*ℤ, *ℤ-zero}
use Rattle.std.proofs.lemmas.Int.{ints}
use Rattle.decimal.specs.Rounding.{raised}
use Rattle.term_model.specs.Declarations.{Declarations}
use Rattle.term_model.specs.Terms.{Contract, Zero, Pay, Both, Scale, After, Let, Within}
use Rattle.term_model.specs.Environments.{Environment}
use Rattle.term_model.specs.Kinds.{kind_of, scale_of}
use Rattle.term_model.specs.Values.{Entry, kinds, num, kind_or, value_of, first_true}
use Rattle.term_model.specs.Flows.{count_of, flow_of, scale_of_contract, unit_flow, on_day_zero}
use Rattle.flow_eval.specs.declared.flow_table.Slot.{Slot}
use Rattle.flow_eval.specs.declared.payments.Payment.{Payment}
use Rattle.flow_eval.specs.Netting.{same_slot}
use Rattle.flow_eval.specs.Payments.{multiplied, payments_of}
use Rattle.flow_eval.proofs.SumFacts.{share, sum_at, sum_at-append}
use Rattle.term_model.proofs.FlowFacts.{mul-neg}
use Rattle.term_model.proofs.Products.{by_sign, mul-swap, parts_raised, raised-raised, sum-mul, neg_sum}
use Rattle.flow_eval.proofs.PaidFacts.{flow_at, times_one, sum_at-paid}

share_by : (b : Bool) (x v : ℤ) → (if b then x *ℤ v else pos 0) ≡ (if b then x else pos 0) *ℤ v
share_by true x v = refl
share_by false x v = sym (zero-*ℤ v)

sum-mul-all : (x y v : ℤ) → (x +ℤ y) *ℤ v ≡ x *ℤ v +ℤ y *ℤ v
sum-mul-all x y v =
    by_sign (λ z. (x +ℤ y) *ℤ z) (λ z. x *ℤ z +ℤ y *ℤ z) (sum-mul x y) (mul-neg (x +ℤ y)) (λ z. ap (λ (w : ℤ). w +ℤ y *ℤ neg_ℤ z) (mul-neg x z) ∙ ap (λ (w : ℤ). neg_ℤ (x *ℤ z) +ℤ w) (mul-neg y z) ∙ neg_sum (x *ℤ z) (y *ℤ z)) v

-- what payments times a factor come to
pub sum_at-multiplied : (s : Slot) (v : ℤ) (ps : List Payment) → sum_at s (multiplied v ps) ≡ v *ℤ sum_at s ps
sum_at-multiplied s v [] = sym (*ℤ-zero v)
sum_at-multiplied s v (p ∷ ps) =
    ap (λ (x : ℤ). x +ℤ sum_at s (multiplied v ps)) (share_by (same_slot s p.slot) p.amount v) ∙ ap (λ (x : ℤ). share s p *ℤ v +ℤ x) (sum_at-multiplied s v ps ∙ *ℤ_comm v (sum_at s ps)) ∙ sym (sum-mul-all (share s p) (sum_at s ps) v) ∙ *ℤ_comm (share s p +ℤ sum_at s ps) v

unit_raised : (decimals : ℕ) (u : ℤ) → raised (pos 1) decimals *ℤ u ≡ raised u (decimals - 0)
unit_raised decimals u =
    let all : decimals ≡ decimals - 0 = omega arith in
    mul-swap (pos 1) (10 ^ decimals) u ∙ ap (λ (x : ℤ). raised x decimals) (*ℤ_comm (pos 1) u ∙ times_one u) ∙ ap (λ (n : ℕ). raised u n) all

factor_raised : (decimals i j : ℕ) (v x : ℤ) → v *ℤ raised x (decimals - i - j) ≡ raised (v *ℤ x) (decimals - (i + j))
factor_raised decimals i j v x =
    let same : decimals - i - j ≡ decimals - (i + j) = omega arith in
    *ℤ_comm v (raised x (decimals - i - j)) ∙ mul-swap x (10 ^ (decimals - i - j)) v ∙ ap (λ (y : ℤ). raised y (decimals - i - j)) (*ℤ_comm x v) ∙ ap (λ (n : ℕ). raised (v *ℤ x) n) same

later : (x f : ℤ) (n : ℕ) → x -ℤ (f +ℤ pos n) ≡ (x -ℤ f) -ℤ pos n
later x f n = omega (arith, ints)

left_raised : (x : ℤ) (decimals i j : ℕ) → max i j ≤ decimals → raised x (decimals - i) ≡ raised (raised x (max i j - i)) (decimals - max i j)
left_raised x decimals i j h =
    let all : (max i j - i) + (decimals - max i j) ≡ decimals - i = omega arith in
    sym (raised-raised x (max i j - i) (decimals - max i j) ∙ ap (λ (n : ℕ). raised x n) all)

right_raised : (x : ℤ) (decimals i j : ℕ) → max i j ≤ decimals → raised x (decimals - j) ≡ raised (raised x (max i j - j)) (decimals - max i j)
right_raised x decimals i j h =
    let all : (max i j - j) + (decimals - max i j) ≡ decimals - j = omega arith in
    sym (raised-raised x (max i j - j) (decimals - max i j) ∙ ap (λ (n : ℕ). raised x n) all)

-- of two branches the one that is entered
branch_sum : (s : Slot) (o : Option ℕ) (hit : ℕ → List Payment) (miss : List Payment) (x : ℕ → ℤ) (y : ℤ) (decimals i j : ℕ) → max i j ≤ decimals
    → ((k : ℕ) → sum_at s (hit k) ≡ raised (x k) (decimals - i)) → sum_at s miss ≡ raised y (decimals - j)
    → sum_at s (elim o [ Some k ↦ hit k | None ↦ miss ]) ≡ raised (elim o [ Some k ↦ raised (x k) (max i j - i) | None ↦ raised y (max i j - j) ]) (decimals - max i j)
branch_sum s (Some k) hit miss x y decimals i j h one other = one k ∙ left_raised (x k) decimals i j h
branch_sum s None hit miss x y decimals i j h one other = other ∙ right_raised y decimals i j h

-- what the payments come to at a slot is what the model says that the contract pays there
pub sum_at-payments_of : (d : Declarations) (env : Environment) (s : Slot) (last : ℤ) (c : Contract) (g : List Entry) (decimals : ℕ) (f : ℤ)
    → s.lower < s.higher → s.day ≤ℤ last → scale_of_contract d c (kinds g) ≤ decimals
    → sum_at s (payments_of d decimals c g env f last) ≡ raised (flow_of d c g env f (s.day -ℤ f) (flow_at s)) (decimals - scale_of_contract d c (kinds g))
sum_at-payments_of d env s last Zero g decimals f pair due fits = sym (zero-*ℤ (pos (10 ^ (decimals - 0))))
sum_at-payments_of d env s last (Pay a p q) g decimals f pair due fits =
    sum_at-paid s last f (record { asset = a; from = p; to = q }) (raised (pos 1) decimals) pair due ∙ unit_raised decimals (on_day_zero (s.day -ℤ f) (unit_flow a p q (flow_at s)))
sum_at-payments_of d env s last (Both one other) g decimals f pair due fits =
    let i = scale_of_contract d one (kinds g) in
    let j = scale_of_contract d other (kinds g) in
    let x = flow_of d one g env f (s.day -ℤ f) (flow_at s) in
    let y = flow_of d other g env f (s.day -ℤ f) (flow_at s) in
    let l : i ≤ decimals = omega arith in
    let r : j ≤ decimals = omega arith in
    sum_at-append s (payments_of d decimals one g env f last) (payments_of d decimals other g env f last) ∙ ap (λ (z : ℤ). z +ℤ sum_at s (payments_of d decimals other g env f last)) (sum_at-payments_of d env s last one g decimals f pair due l) ∙ ap (λ (z : ℤ). raised x (decimals - i) +ℤ z) (sum_at-payments_of d env s last other g decimals f pair due r) ∙ parts_raised x y decimals i j l r
sum_at-payments_of d env s last (Scale e c) g decimals f pair due fits =
    let i = scale_of d e (kinds g) in
    let j = scale_of_contract d c (kinds g) in
    let v = num (value_of d e g env f) in
    let l : j ≤ decimals - i = omega arith in
    sum_at-multiplied s v (payments_of d (decimals - i) c g env f last) ∙ ap (λ (z : ℤ). v *ℤ z) (sum_at-payments_of d env s last c g (decimals - i) f pair due l) ∙ factor_raised decimals i j v (flow_of d c g env f (s.day -ℤ f) (flow_at s))
sum_at-payments_of d env s last (After n c) g decimals f pair due fits =
    sum_at-payments_of d env s last c g decimals (f +ℤ pos (count_of n)) pair due fits ∙ ap (λ (x : ℤ). raised (flow_of d c g env (f +ℤ pos (count_of n)) x (flow_at s)) (decimals - scale_of_contract d c (kinds g))) (later s.day f (count_of n))
sum_at-payments_of d env s last (Let e c) g decimals f pair due fits =
    sum_at-payments_of d env s last c (record { value = value_of d e g env f; kind = kind_or (kind_of d e (kinds g)) } ∷ g) decimals f pair due fits
sum_at-payments_of d env s last (Within e n one other) g decimals f pair due fits =
    let i = scale_of_contract d one (kinds g) in
    let j = scale_of_contract d other (kinds g) in
    let l : i ≤ decimals = omega arith in
    let r : j ≤ decimals = omega arith in
    branch_sum s (first_true d e g env f (count_of n)) (λ k. payments_of d decimals one g env (f +ℤ pos k) last) (payments_of d decimals other g env (f +ℤ pos (count_of n)) last) (λ k. flow_of d one g env (f +ℤ pos k) ((s.day -ℤ f) -ℤ pos k) (flow_at s)) (flow_of d other g env (f +ℤ pos (count_of n)) ((s.day -ℤ f) -ℤ pos (count_of n)) (flow_at s)) decimals i j fits
    (λ k. sum_at-payments_of d env s last one g decimals (f +ℤ pos k) pair due l ∙ ap (λ (x : ℤ). raised (flow_of d one g env (f +ℤ pos k) x (flow_at s)) (decimals - i)) (later s.day f k))
    (sum_at-payments_of d env s last other g decimals (f +ℤ pos (count_of n)) pair due r ∙ ap (λ (x : ℤ). raised (flow_of d other g env (f +ℤ pos (count_of n)) x (flow_at s)) (decimals - j)) (later s.day f (count_of n)))
