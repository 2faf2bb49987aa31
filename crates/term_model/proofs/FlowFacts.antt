-- Flows: opposite ways, and the days on which there are none.
use Rattle.std.proofs.Common.{◌≡◌, ℕ, zero, suc, ℤ, pos, negsuc, ◌+ℤ◌, ◌-ℤ◌, ◌*ℤ◌, neg_ℤ, ◌<ℤ◌, ◌≤ℤ◌, ◌≤◌, ◌<◌, ◌-◌, ◌*◌, ◌^◌, max, Bool, true, false, ◌&&◌, not, ◌==◌, if◌then◌else◌, refl, ap, sym, ◌∙◌, Some, None, Option, List, [], ◌∷◌, mul-zero, inl, inr, ◌⊎◌, arith, int_eq}
use Rattle.std.proofs.Math.IntN.{neg_ℤ-neg_ℤ, neg_ℤ-+ℤ, *ℤ_comm, zero-*ℤ, *ℤ-zero}
use Rattle.std.proofs.lemmas.Int.{ints, by_lt_z}
use Rattle.std.proofs.lemmas.Bool.Decides.{nat_tests}
use Rattle.decimal.specs.Rounding.{raised}
use Rattle.term_model.specs.Declarations.{Declarations}
use Rattle.term_model.specs.Terms.{Contract, Zero, Pay, Both, Scale, After, Let, Within}
use Rattle.term_model.specs.Environments.{Environment}
use Rattle.term_model.specs.Values.{Entry, kinds, num, value_of, entry_of, first_of, first_true}
use Rattle.term_model.specs.Flows.{Flow, flow_of, count_of, unit_flow, on_day_zero, scale_of_contract}
use Rattle.term_model.specs.Horizons.{delayed, horizon_of}
use Rattle.term_model.specs.LawsFlows.{reversed, AmountsAreOpposite, AmountsEndAtHorizon, AmountsBeginAtZero}

pub mul-neg : (x y : ℤ) → x *ℤ neg_ℤ y ≡ neg_ℤ (x *ℤ y)
mul-neg (pos a) (pos zero) = rw mul-zero refl
mul-neg (pos a) (pos (suc n)) = refl
mul-neg (pos a) (negsuc n) = sym (neg_ℤ-neg_ℤ (pos (a * suc n)))
mul-neg (negsuc a) (pos zero) = rw mul-zero refl
mul-neg (negsuc a) (pos (suc n)) = sym (neg_ℤ-neg_ℤ (pos (suc a * suc n)))
mul-neg (negsuc a) (negsuc n) = refl

pub raised-neg : (x : ℤ) (k : ℕ) → raised (neg_ℤ x) k ≡ neg_ℤ (raised x k)
raised-neg x k = *ℤ_comm (neg_ℤ x) (pos (10 ^ k)) ∙ mul-neg (pos (10 ^ k)) x ∙ ap neg_ℤ (*ℤ_comm (pos (10 ^ k)) x)

pub raised-zero : (k : ℕ) → raised (pos 0) k ≡ pos 0
raised-zero k = zero-*ℤ (pos (10 ^ k))

-- a pay from p to q, seen both ways: `ours` and `theirs` say that it goes this way and that way
opposite : (on same ours theirs : Bool) → (ours ≡ true → theirs ≡ true → same ≡ true) → (if on && not same then (if theirs then pos 1 else (if ours then neg_ℤ (pos 1) else pos 0)) else pos 0) ≡ neg_ℤ (if on && not same then (if ours then pos 1 else (if theirs then neg_ℤ (pos 1) else pos 0)) else pos 0)
opposite false same ours theirs h = refl
opposite true true ours theirs h = refl
opposite true false true true h = absurd (cc (h refl refl))
opposite true false true false h = refl
opposite true false false true h = refl
opposite true false false false h = refl

both_ways : (p q f t : ℕ) → ((p == f) && (q == t)) ≡ true → ((p == t) && (q == f)) ≡ true → (p == q) ≡ true
both_ways p q f t h k = grind (arith, nat_tests)

unit_opposite : (a p q : ℕ) (w : Flow) → unit_flow a p q (reversed w) ≡ neg_ℤ (unit_flow a p q w)
unit_opposite a p q w =
    opposite (a == w.asset) (p == q) ((p == w.from) && (q == w.to)) ((p == w.to) && (q == w.from)) (both_ways p q w.from w.to)

chosen : (b : Bool) (x y : ℤ) → x ≡ neg_ℤ y → (if b then x else pos 0) ≡ neg_ℤ (if b then y else pos 0)
chosen true x y h = h
chosen false x y h = refl

day_opposite : (n x y : ℤ) → x ≡ neg_ℤ y → on_day_zero n x ≡ neg_ℤ (on_day_zero n y)
day_opposite n x y h = chosen (int_eq n (pos 0)) x y h

one_opposite : (x y : ℤ) (k : ℕ) → x ≡ neg_ℤ y → raised x k ≡ neg_ℤ (raised y k)
one_opposite x y k h = ap (λ (z : ℤ). raised z k) h ∙ raised-neg y k

sum_opposite : (x x' y y' : ℤ) (k l : ℕ) → x ≡ neg_ℤ x' → y ≡ neg_ℤ y' → raised x k +ℤ raised y l ≡ neg_ℤ (raised x' k +ℤ raised y' l)
sum_opposite x x' y y' k l h h' =
    ap (λ (z : ℤ). z +ℤ raised y l) (one_opposite x x' k h) ∙ ap (λ (z : ℤ). neg_ℤ (raised x' k) +ℤ z) (one_opposite y y' l h') ∙ sym (neg_ℤ-+ℤ (raised x' k) (raised y' l))

branch_opposite : (o : Option ℕ) (x x' : ℕ → ℤ) (y y' : ℤ) (k l : ℕ) → ((i : ℕ) → x i ≡ neg_ℤ (x' i)) → y ≡ neg_ℤ y' → elim o [ Some i ↦ raised (x i) k | None ↦ raised y l ] ≡ neg_ℤ (elim o [ Some i ↦ raised (x' i) k | None ↦ raised y' l ])
branch_opposite (Some i) x x' y y' k l h h' = one_opposite (x i) (x' i) k (h i)
branch_opposite None x x' y y' k l h h' = one_opposite y y' l h'

pub flow_opposite : (d : Declarations) (c : Contract) (g : List Entry) (env : Environment) (f n : ℤ) (w : Flow) → flow_of d c g env f n (reversed w) ≡ neg_ℤ (flow_of d c g env f n w)
flow_opposite d Zero g env f n w = refl
flow_opposite d (Pay a p q) g env f n w = day_opposite n (unit_flow a p q (reversed w)) (unit_flow a p q w) (unit_opposite a p q w)
flow_opposite d (Both a b) g env f n w =
    let i = scale_of_contract d a (kinds g) in
    let j = scale_of_contract d b (kinds g) in
    sum_opposite _ _ _ _ (max i j - i) (max i j - j) (flow_opposite d a g env f n w) (flow_opposite d b g env f n w)
flow_opposite d (Scale e c) g env f n w =
    ap (λ (x : ℤ). num (value_of d e g env f) *ℤ x) (flow_opposite d c g env f n w) ∙ mul-neg (num (value_of d e g env f)) (flow_of d c g env f n w)
flow_opposite d (After m c) g env f n w = flow_opposite d c g env (f +ℤ pos (count_of m)) (n -ℤ pos (count_of m)) w
flow_opposite d (Let e c) g env f n w =
    flow_opposite d c (entry_of d e g env f ∷ g) env f n w
flow_opposite d (Within e m a b) g env f n w =
    let i = scale_of_contract d a (kinds g) in
    let j = scale_of_contract d b (kinds g) in
    branch_opposite (first_true d e g env f (count_of m)) _ _ _ _ (max i j - i) (max i j - j) (λ k. flow_opposite d a g env (f +ℤ pos k) (n -ℤ pos k) w) (flow_opposite d b g env (f +ℤ pos (count_of m)) (n -ℤ pos (count_of m)) w)

pub amounts_opposite : AmountsAreOpposite
amounts_opposite d c env f n w =
    one_opposite (flow_of d c [] env f n (reversed w)) (flow_of d c [] env f n w) (d.amounts - scale_of_contract d c []) (flow_opposite d c [] env f n w)

-- a day on which nothing is paid: before 0, or from the horizon on
abbrev pub IsIdle : Contract → ℤ → Type 0
IsIdle c n = (n <ℤ pos 0) ⊎ (pos (horizon_of c) ≤ℤ n)

within_zero : (b : Bool) (k : ℕ) → (if b then Some zero else None) ≡ Some k → k ≤ zero
within_zero true k h =
    let e : zero ≡ k = cc in
    omega arith
within_zero false k h = absurd (cc)

within_suc : (n k : ℕ) (o : Option ℕ) (b : Bool) → ((j : ℕ) → o ≡ Some j → j ≤ n) → elim o [ Some i ↦ Some i | None ↦ if b then Some (suc n) else None ] ≡ Some k → k ≤ suc n
within_suc n k (Some i) b below h =
    let e : i ≡ k = cc in
    omega (arith, below i refl)
within_suc n k None true below h =
    let e : suc n ≡ k = cc in
    omega arith
within_suc n k None false below h = absurd (cc)

-- the first day on which a test holds is one of the days that are tried
pub first_within : (n : ℕ) (p : ℕ → Bool) (k : ℕ) → first_of n p ≡ Some k → k ≤ n
first_within zero p k h = within_zero (p zero) k h
first_within (suc n) p k h = within_suc n k (first_of n p) (p (suc n)) (first_within n p) h

idle_less : (n : ℤ) (a b : ℕ) → a ≤ b → (n <ℤ pos 0) ⊎ (pos b ≤ℤ n) → (n <ℤ pos 0) ⊎ (pos a ≤ℤ n)
idle_less n a b le (inl h) = inl h
idle_less n a b le (inr h) = inr (omega (arith, ints))

idle_sooner : (n : ℤ) (d k h : ℕ) → k ≤ d → (n <ℤ pos 0) ⊎ (pos (delayed d h) ≤ℤ n) → ((n -ℤ pos k) <ℤ pos 0) ⊎ (pos h ≤ℤ (n -ℤ pos k))
idle_sooner n d k zero le h = by_lt_z (n -ℤ pos k) (pos 0) (λ p. inl p) (λ p. inr p)
idle_sooner n d k (suc h) le (inl p) = inl (omega (arith, ints))
idle_sooner n d k (suc h) le (inr p) = inr (omega (arith, ints))

pub differs : (n : ℕ) → 0 < n → int_eq (pos n) (pos 0) ≡ false
differs n h = grind (arith, nat_tests)

idle_pay : (n x : ℤ) → (n <ℤ pos 0) ⊎ (pos 1 ≤ℤ n) → on_day_zero n x ≡ pos 0
idle_pay (pos zero) x h = absurd (elim h [ inl a ↦ omega (arith, ints) | inr a ↦ omega (arith, ints) ])
idle_pay (pos (suc n)) x h = rw (differs (suc n) (omega arith)) refl
idle_pay (negsuc n) x h = refl

sum_zero : (x y : ℤ) (k l : ℕ) → x ≡ pos 0 → y ≡ pos 0 → raised x k +ℤ raised y l ≡ pos 0
sum_zero x y k l h h' =
    ap (λ (z : ℤ). raised z k +ℤ raised y l) h ∙ ap (λ (z : ℤ). raised (pos 0) k +ℤ raised z l) h' ∙ ap (λ (z : ℤ). z +ℤ raised (pos 0) l) (raised-zero k) ∙ ap (λ (z : ℤ). pos 0 +ℤ z) (raised-zero l)

pub one_zero : (x : ℤ) (k : ℕ) → x ≡ pos 0 → raised x k ≡ pos 0
one_zero x k h = ap (λ (z : ℤ). raised z k) h ∙ raised-zero k

branch_zero : (o : Option ℕ) (x : ℕ → ℤ) (y : ℤ) (k l : ℕ) → ((i : ℕ) → o ≡ Some i → x i ≡ pos 0) → y ≡ pos 0 → elim o [ Some i ↦ raised (x i) k | None ↦ raised y l ] ≡ pos 0
branch_zero (Some i) x y k l h h' = one_zero (x i) k (h i refl)
branch_zero None x y k l h h' = one_zero y l h'

pub flow_idle : (d : Declarations) (c : Contract) (g : List Entry) (env : Environment) (f n : ℤ) (w : Flow) → IsIdle c n → flow_of d c g env f n w ≡ pos 0
flow_idle d Zero g env f n w h = refl
flow_idle d (Pay a p q) g env f n w h = idle_pay n (unit_flow a p q w) h
flow_idle d (Both a b) g env f n w h =
    sum_zero _ _ _ _ (flow_idle d a g env f n w (idle_less n (horizon_of a) (max (horizon_of a) (horizon_of b)) (omega arith) h)) (flow_idle d b g env f n w (idle_less n (horizon_of b) (max (horizon_of a) (horizon_of b)) (omega arith) h))
flow_idle d (Scale e c) g env f n w h =
    ap (λ (x : ℤ). num (value_of d e g env f) *ℤ x) (flow_idle d c g env f n w h) ∙ *ℤ-zero (num (value_of d e g env f))
flow_idle d (After m c) g env f n w h = flow_idle d c g env (f +ℤ pos (count_of m)) (n -ℤ pos (count_of m)) w (idle_sooner n (count_of m) (count_of m) (horizon_of c) (omega arith) h)
flow_idle d (Let e c) g env f n w h =
    flow_idle d c (entry_of d e g env f ∷ g) env f n w h
flow_idle d (Within e m a b) g env f n w h =
    let i = scale_of_contract d a (kinds g) in
    let j = scale_of_contract d b (kinds g) in
    let most = max (horizon_of a) (horizon_of b) in
    branch_zero (first_true d e g env f (count_of m)) _ _ (max i j - i) (max i j - j) (λ k e. flow_idle d a g env (f +ℤ pos k) (n -ℤ pos k) w (idle_less (n -ℤ pos k) (horizon_of a) most (omega arith) (idle_sooner n (count_of m) k most (first_within (count_of m) _ k e) h)))
    (flow_idle d b g env (f +ℤ pos (count_of m)) (n -ℤ pos (count_of m)) w (idle_less (n -ℤ pos (count_of m)) (horizon_of b) most (omega arith) (idle_sooner n (count_of m) (count_of m) most (omega arith) h)))

pub amounts_end : AmountsEndAtHorizon
amounts_end d c env f n w h =
    one_zero (flow_of d c [] env f n w) (d.amounts - scale_of_contract d c []) (flow_idle d c [] env f n w (inr h))

pub amounts_begin : AmountsBeginAtZero
amounts_begin d c env f n w h =
    one_zero (flow_of d c [] env f n w) (d.amounts - scale_of_contract d c []) (flow_idle d c [] env f n w (inl h))
