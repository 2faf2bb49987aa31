-- Sums over days of what is paid, each day with a weight of its own: a sum, a product, another first day.
use Rattle.std.proofs.Common.{◌≡◌, ℕ, zero, suc, ℤ, pos, ◌+ℤ◌, ◌-ℤ◌, ◌*ℤ◌, ◌<ℤ◌, ◌≤ℤ◌, ◌+◌, ◌-◌, ◌≤◌, ◌<◌, refl, ap, ap₂, sym, ◌∙◌, inl, inr, arith}
use Rattle.std.proofs.Math.IntN.{*ℤ-zero}
use Rattle.std.proofs.lemmas.Int.{ints}
use Rattle.std.proofs.lemmas.Bool.{cases_lt}
use Rattle.term_model.specs.Horizons.{delayed}
use Rattle.payoff_terms.specs.PresentValues.{sum_before}
use Rattle.term_model.proofs.Products.{mul-sum, mul-past, regrouped}

-- on frame f, with a weight for each day, over h own days
abbrev pub weighted : (ℤ → ℤ) → ℤ → ℕ → (ℤ → ℤ) → ℤ
weighted u f h x = sum_before h (λ i. u (f +ℤ pos i) *ℤ x (pos i))

pub same_sum : (h : ℕ) (x y : ℕ → ℤ) → ((i : ℕ) → i < h → x i ≡ y i) → sum_before h x ≡ sum_before h y
same_sum zero x y e = refl
same_sum (suc h) x y e = ap₂ (λ (s t : ℤ). s +ℤ t) (same_sum h x y (λ i l. e i (omega arith))) (e h (omega arith))

pub zero_sum : (h : ℕ) (x : ℕ → ℤ) → ((i : ℕ) → i < h → x i ≡ pos 0) → sum_before h x ≡ pos 0
zero_sum zero x e = refl
zero_sum (suc h) x e = ap₂ (λ (s t : ℤ). s +ℤ t) (zero_sum h x (λ i l. e i (omega arith))) (e h (omega arith))

pub sum_of_sums : (h : ℕ) (x y : ℕ → ℤ) → sum_before h (λ i. x i +ℤ y i) ≡ sum_before h x +ℤ sum_before h y
sum_of_sums zero x y = refl
sum_of_sums (suc h) x y =
    ap (λ (z : ℤ). z +ℤ (x h +ℤ y h)) (sum_of_sums h x y) ∙ regrouped (sum_before h x) (sum_before h y) (x h) (y h)

pub sum_times : (h : ℕ) (m : ℤ) (x : ℕ → ℤ) → sum_before h (λ i. m *ℤ x i) ≡ m *ℤ sum_before h x
sum_times zero m x = sym (*ℤ-zero m)
sum_times (suc h) m x = ap (λ (z : ℤ). z +ℤ m *ℤ x h) (sum_times h m x) ∙ sym (mul-sum m (sum_before h x) (x h))

pub weighted_same : (u : ℤ → ℤ) (f : ℤ) (h : ℕ) (x y : ℤ → ℤ) → ((n : ℤ) → x n ≡ y n) → weighted u f h x ≡ weighted u f h y
weighted_same u f h x y e =
    same_sum h (λ i. u (f +ℤ pos i) *ℤ x (pos i)) (λ i. u (f +ℤ pos i) *ℤ y (pos i)) (λ i l. ap (λ (z : ℤ). u (f +ℤ pos i) *ℤ z) (e (pos i)))

pub weighted_zero : (u : ℤ → ℤ) (f : ℤ) (h : ℕ) (x : ℤ → ℤ) → ((i : ℕ) → i < h → x (pos i) ≡ pos 0) → weighted u f h x ≡ pos 0
weighted_zero u f h x e =
    zero_sum h (λ i. u (f +ℤ pos i) *ℤ x (pos i)) (λ i l. ap (λ (z : ℤ). u (f +ℤ pos i) *ℤ z) (e i l) ∙ *ℤ-zero (u (f +ℤ pos i)))

pub weighted_sum : (u : ℤ → ℤ) (f : ℤ) (h : ℕ) (x y : ℤ → ℤ) → weighted u f h (λ n. x n +ℤ y n) ≡ weighted u f h x +ℤ weighted u f h y
weighted_sum u f h x y =
    same_sum h (λ i. u (f +ℤ pos i) *ℤ (x (pos i) +ℤ y (pos i))) (λ i. u (f +ℤ pos i) *ℤ x (pos i) +ℤ u (f +ℤ pos i) *ℤ y (pos i)) (λ i l. mul-sum (u (f +ℤ pos i)) (x (pos i)) (y (pos i)))
    ∙ sum_of_sums h (λ i. u (f +ℤ pos i) *ℤ x (pos i)) (λ i. u (f +ℤ pos i) *ℤ y (pos i))

pub weighted_times : (u : ℤ → ℤ) (f : ℤ) (h : ℕ) (m : ℤ) (x : ℤ → ℤ) → weighted u f h (λ n. m *ℤ x n) ≡ m *ℤ weighted u f h x
weighted_times u f h m x =
    same_sum h (λ i. u (f +ℤ pos i) *ℤ (m *ℤ x (pos i))) (λ i. m *ℤ (u (f +ℤ pos i) *ℤ x (pos i))) (λ i l. sym (mul-past m (u (f +ℤ pos i)) (x (pos i))))
    ∙ sum_times h m (λ i. u (f +ℤ pos i) *ℤ x (pos i))

-- only the first day counts
pub weighted_first : (u : ℤ → ℤ) (f : ℤ) (h : ℕ) (x : ℤ → ℤ) → ((i : ℕ) → x (pos (suc i)) ≡ pos 0) → weighted u f (suc h) x ≡ u (f +ℤ pos 0) *ℤ x (pos 0)
weighted_first u f zero x e = omega (arith, ints)
weighted_first u f (suc h) x e =
    let last : u (f +ℤ pos (suc h)) *ℤ x (pos (suc h)) ≡ pos 0 = ap (λ (z : ℤ). u (f +ℤ pos (suc h)) *ℤ z) (e h) ∙ *ℤ-zero (u (f +ℤ pos (suc h))) in
    ap (λ (z : ℤ). weighted u f (suc h) x +ℤ z) last ∙ ap (λ (z : ℤ). z +ℤ pos 0) (weighted_first u f h x e) ∙ omega (arith, ints)

-- what begins m days later
moved_sum : (u : ℤ → ℤ) (f : ℤ) (m h k : ℕ) (x : ℤ → ℤ) → k ≡ m + h → ((n : ℤ) → n <ℤ pos 0 → x n ≡ pos 0) → weighted u f k (λ n. x (n -ℤ pos m)) ≡ weighted u (f +ℤ pos m) h x
moved_sum u f m zero k x e before =
    weighted_zero u f k (λ n. x (n -ℤ pos m)) (λ i l. before (pos i -ℤ pos m) (omega (arith, ints)))
moved_sum u f m (suc h) zero x e before = absurd (omega arith)
moved_sum u f m (suc h) (suc k) x e before =
    ap₂ (λ (s t : ℤ). s +ℤ t) (moved_sum u f m h k x (omega arith) before)
    (ap₂ (λ (i j : ℤ). u i *ℤ x j) (omega (arith, ints)) (omega (arith, ints)))

-- the same, where it ends before the last day that is counted
pub weighted_moved : (u : ℤ → ℤ) (f : ℤ) (m h most : ℕ) (x : ℤ → ℤ) → delayed m most ≤ h → ((n : ℤ) → n <ℤ pos 0 → x n ≡ pos 0) → ((n : ℤ) → pos most ≤ℤ n → x n ≡ pos 0) → (weighted u f h (λ n. x (n -ℤ pos m)) ≡ weighted u (f +ℤ pos m) (h - m) x) × (most ≤ h - m)
weighted_moved u f m h zero x le before after =
    elim (cases_lt h m) [
      | inl lt ↦ (weighted_zero u f h (λ n. x (n -ℤ pos m)) (λ i l. before (pos i -ℤ pos m) (omega (arith, ints))) ∙ sym (weighted_zero u (f +ℤ pos m) (h - m) x (λ i l. absurd (omega arith))), omega arith)
      | inr ge ↦ (moved_sum u f m (h - m) h x (omega arith) before, omega arith)
    ]
weighted_moved u f m h (suc most) x le before after = (moved_sum u f m (h - m) h x (omega arith) before, omega arith)
