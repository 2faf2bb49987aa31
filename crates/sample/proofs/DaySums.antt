-- Sums over days.
use Rattle.std.proofs.Common.{◌≡◌, ◌∙◌, ℕ, zero, suc, ◌+◌, ◌*◌, ◌^◌, ◌≤◌, ◌<◌, ℤ, pos, neg_ℤ, ◌+ℤ◌, ◌≤ℤ◌, Bool, true, false, ◌&&◌, if◌then◌else◌, inl, inr, refl, ap, sym, arith, unsigned_abs}
use Rattle.std.specs.Ordering.{int_eq}
use Rattle.std.proofs.lemmas.Int.{ints}
use Rattle.std.proofs.lemmas.Bool.{cases_lt}
use Rattle.std.proofs.lemmas.Bool.Decides.{Decides-int_eq}
use Rattle.interval_check.specs.Sums.{sum_of_sizes}
use Rattle.sample.specs.Days.{sum_before}
use Rattle.flow_eval.proofs.SumFacts.{zero_and}

and_zero : (x y z : ℤ) → x ≡ z → y ≡ pos 0 → x +ℤ y ≡ z
and_zero x y z h k = omega (arith, ints)

zero_before : (x y z : ℤ) → x ≡ pos 0 → y ≡ z → x +ℤ y ≡ z
zero_before x y z h k = omega (arith, ints)

both_same : (x y z w : ℤ) → x ≡ z → y ≡ w → x +ℤ y ≡ z +ℤ w
both_same x y z w h k = omega (arith, ints)

crossed : (s t x y a b : ℤ) → s ≡ x +ℤ y → s +ℤ (a +ℤ b) ≡ (x +ℤ a) +ℤ (y +ℤ b)
crossed s t x y a b h = omega (arith, ints)

negated : (s x a b : ℤ) → s ≡ neg_ℤ x → a ≡ neg_ℤ b → s +ℤ a ≡ neg_ℤ (x +ℤ b)
negated s x a b h k = omega (arith, ints)

triangle : (x y : ℤ) (n : ℕ) → unsigned_abs x ≤ n → unsigned_abs (x +ℤ y) ≤ n + unsigned_abs y
triangle x y n h = omega (arith, ints)

one_more : (x y : ℤ) (n : ℕ) → x ≤ℤ pos (n * 10 ^ 27) → y ≤ℤ pos (10 ^ 27) → (x +ℤ y) ≤ℤ pos (suc n * 10 ^ 27)
one_more x y n h k = omega (arith, ints)

level : (n k : ℕ) → n ≤ k → k < suc n → n ≡ k
level n k a b = omega arith

pub sum_before-zero : (n : ℕ) (f : ℕ → ℤ) → ((i : ℕ) → i < n → f i ≡ pos 0) → sum_before n f ≡ pos 0
unfolding sum_before
sum_before-zero zero f h = refl
sum_before-zero (suc n) f h = zero_and (sum_before n f) (f n) (sum_before-zero n f (λ i lt. h i (omega arith))) (h n (omega arith))

pub sum_before-same : (n : ℕ) (f g : ℕ → ℤ) → ((i : ℕ) → i < n → f i ≡ g i) → sum_before n f ≡ sum_before n g
unfolding sum_before
sum_before-same zero f g h = refl
sum_before-same (suc n) f g h =
    both_same (sum_before n f) (f n) (sum_before n g) (g n) (sum_before-same n f g (λ i lt. h i (omega arith))) (h n (omega arith))

pub sum_before-plus : (n : ℕ) (f g : ℕ → ℤ) → sum_before n (λ i. f i +ℤ g i) ≡ sum_before n f +ℤ sum_before n g
unfolding sum_before
sum_before-plus zero f g = refl
sum_before-plus (suc n) f g =
    crossed (sum_before n (λ i. f i +ℤ g i)) (f n +ℤ g n) (sum_before n f) (sum_before n g) (f n) (g n) (sum_before-plus n f g)

pub sum_before-neg : (n : ℕ) (f g : ℕ → ℤ) → ((i : ℕ) → f i ≡ neg_ℤ (g i)) → sum_before n f ≡ neg_ℤ (sum_before n g)
unfolding sum_before
sum_before-neg zero f g h = refl
sum_before-neg (suc n) f g h = negated (sum_before n f) (sum_before n g) (f n) (g n) (sum_before-neg n f g h) (h n)

-- a sum of which one part is not 0
pub sum_before-one : (n k : ℕ) (f : ℕ → ℤ) → k < n → ((i : ℕ) → (i ≡ k → ⊥) → f i ≡ pos 0) → sum_before n f ≡ f k
unfolding sum_before
sum_before-one zero k f lt h = absurd (omega arith)
sum_before-one (suc n) k f lt h =
    elim (cases_lt k n) [
      | inl less ↦ and_zero (sum_before n f) (f n) (f k) (sum_before-one n k f less h) (h n (λ e. omega arith))
      | inr more ↦ zero_before (sum_before n f) (f n) (f k) (sum_before-zero n f (λ i l. h i (λ e. omega arith))) (ap f (level n k more lt))
    ]

-- the size of a sum is at most the sum of the sizes
pub sum_before-size : (n : ℕ) (f : ℕ → ℤ) → unsigned_abs (sum_before n f) ≤ sum_of_sizes n f
unfolding sum_before
sum_before-size zero f = omega (arith, ints)
sum_before-size (suc n) f = triangle (sum_before n f) (f n) (sum_of_sizes n f) (sum_before-size n f)

pub sum_before-most : (n : ℕ) (f : ℕ → ℤ) → ((i : ℕ) → f i ≤ℤ pos (10 ^ 27)) → sum_before n f ≤ℤ pos (n * 10 ^ 27)
unfolding sum_before
sum_before-most zero f h = omega (arith, ints)
sum_before-most (suc n) f h = one_more (sum_before n f) (f n) n (sum_before-most n f h) (h n)

-- ---- what stands on one day alone

off : (b r : Bool) (x : ℤ) → (b ≡ true → ⊥) → (if b && r then x else pos 0) ≡ pos 0
off true r x h = absurd (h refl)
off false r x h = refl

same_number : (i k : ℕ) (day : ℤ) → pos i ≡ day → day ≡ pos k → i ≡ k
same_number i k day h e = omega (arith, ints)

-- what stands on a day among n adds up to itself over these
pub on_one_day : (n k : ℕ) (day : ℤ) (r : Bool) (x : ℤ) → day ≡ pos k → k < n → sum_before n (λ i. if int_eq (pos i) day && r then x else pos 0) ≡ (if r then x else pos 0)
on_one_day n k day r x e lt =
    sum_before-one n k (λ i. if int_eq (pos i) day && r then x else pos 0) lt (λ i other. off (int_eq (pos i) day) r x (λ h. other (same_number i k day ((Decides-int_eq (pos i) day).0 h) e)))
    ∙ ap (λ (b : Bool). if b && r then x else pos 0) ((Decides-int_eq (pos k) day).1 (sym e))
