-- Sums of sizes of numbers that are raised, added, multiplied and moved to other days.
use Rattle.std.proofs.Common.{◌≡◌, ℕ, zero, suc, ◌+◌, ◌*◌, ◌^◌, ◌≤◌, ◌<◌, ℤ, pos, negsuc, ◌+ℤ◌, ◌*ℤ◌, ◌<ℤ◌, unsigned_abs, Bool, true, false, if◌then◌else◌, refl, ap, arith, int_eq}
use Rattle.std.proofs.Math.Nat.{add-mul}
use Rattle.std.proofs.lemmas.Bool.Decides.{nat_tests}
use Rattle.std.proofs.lemmas.Int.{ints, by_lt_z, unsigned_abs-mul}
use Rattle.decimal.specs.Rounding.{raised}
use Rattle.term_model.specs.Flows.{on_day_zero}
use Rattle.interval_check.specs.Sums.{sum_of_sizes}
use Rattle.interval_check.proofs.MultipleFacts.{times-size}

pub sum_same : (n : ℕ) (x y : ℕ → ℤ) → ((i : ℕ) → x i ≡ y i) → sum_of_sizes n x ≡ sum_of_sizes n y
sum_same zero x y h = refl
sum_same (suc n) x y h = omega (arith, sum_same n x y h, ap unsigned_abs (h n))

pub sum_none : (n : ℕ) (x : ℕ → ℤ) → ((i : ℕ) → i < n → x i ≡ pos 0) → sum_of_sizes n x ≡ 0
sum_none zero x h = refl
sum_none (suc n) x h =
    let last : unsigned_abs (x n) ≡ 0 = ap unsigned_abs (h n (omega arith)) in
    omega (arith, sum_none n x (λ i l. h i (omega arith)))

pub sum_raised : (n : ℕ) (x : ℕ → ℤ) (k : ℕ) → sum_of_sizes n (λ i. raised (x i) k) ≡ sum_of_sizes n x * 10 ^ k
sum_raised zero x k = omega arith
sum_raised (suc n) x k =
    let last : unsigned_abs (raised (x n) k) ≡ unsigned_abs (x n) * 10 ^ k = times-size (x n) (10 ^ k) in
    omega (arith, sum_raised n x k, add-mul (sum_of_sizes n x) (unsigned_abs (x n)) (10 ^ k))

size_plus : (x y : ℤ) → unsigned_abs (x +ℤ y) ≤ unsigned_abs x + unsigned_abs y
size_plus x y = omega (arith, ints)

pub sum_plus : (n : ℕ) (x y : ℕ → ℤ) → sum_of_sizes n (λ i. x i +ℤ y i) ≤ sum_of_sizes n x + sum_of_sizes n y
sum_plus zero x y = omega arith
sum_plus (suc n) x y = omega (arith, sum_plus n x y, size_plus (x n) (y n))

pub sum_times : (n : ℕ) (v : ℤ) (x : ℕ → ℤ) → sum_of_sizes n (λ i. v *ℤ x i) ≡ sum_of_sizes n x * unsigned_abs v
sum_times zero v x = omega arith
sum_times (suc n) v x =
    omega (arith, sum_times n v x, unsigned_abs-mul v (x n), add-mul (sum_of_sizes n x) (unsigned_abs (x n)) (unsigned_abs v))

-- one day at a time
pub sum_of_one : (x : ℕ → ℤ) → sum_of_sizes 1 x ≡ unsigned_abs (x 0)
sum_of_one x = omega arith

-- what stands on day 0 alone, in the days from m on

before_zero : (m x : ℤ) → m <ℤ pos 0 → on_day_zero m x ≡ pos 0
before_zero (pos n) x h = absurd (omega (arith, ints))
before_zero (negsuc n) x h = refl

after_zero : (m x : ℤ) → pos 0 <ℤ m → on_day_zero m x ≡ pos 0
after_zero (pos zero) x h = absurd (omega (arith, ints))
after_zero (pos (suc n)) x h =
    let apart : int_eq (pos (suc n)) (pos 0) ≡ false = grind (arith, nat_tests) in
    ap (λ (b : Bool). if b then x else pos 0) apart
after_zero (negsuc n) x h = refl

at_most : (m x : ℤ) → unsigned_abs (on_day_zero m x) ≤ unsigned_abs x
at_most m x = by (int_eq m (pos 0))
  where
    by : (b : Bool) → unsigned_abs (if b then x else pos 0) ≤ unsigned_abs x
    by true = omega arith
    by false = omega arith

pub sum_on_day_zero : (n : ℕ) (m x : ℤ) → sum_of_sizes n (λ i. on_day_zero (m +ℤ pos i) x) ≤ unsigned_abs x
sum_on_day_zero zero m x = omega arith
sum_on_day_zero (suc n) m x =
    by_lt_z (pos 0) (m +ℤ pos n)
    (λ late. let none : unsigned_abs (on_day_zero (m +ℤ pos n) x) ≡ 0 = ap unsigned_abs (after_zero (m +ℤ pos n) x late) in omega (arith, sum_on_day_zero n m x))
    (λ soon. let none = sum_none n (λ i. on_day_zero (m +ℤ pos i) x) (λ i l. before_zero (m +ℤ pos i) x (omega (arith, ints))) in omega (arith, at_most (m +ℤ pos n) x))
