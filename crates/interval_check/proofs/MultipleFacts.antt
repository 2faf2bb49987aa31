-- Whole numbers times natural ones: sums, orders and negatives.
use Rattle.std.proofs.Common.{◌≡◌, ℕ, zero, suc, ◌+◌, ◌-◌, ◌*◌, ◌<◌, ◌≤◌, ℤ, pos, negsuc, ◌+ℤ◌, ◌-ℤ◌, ◌*ℤ◌, ◌≤ℤ◌, neg_ℤ, unsigned_abs, ap, ◌∙◌, arith}
use Rattle.std.proofs.Math.IntN.{*ℤ-zero}
use Rattle.std.proofs.Math.Nat.{mul-add, mul-suc}
use Rattle.std.proofs.lemmas.Int.{ints, by_lt_z, unsigned_abs-mul}
use Rattle.decimal.proofs.RoundedFacts.{wider}

pub times-zero : (x : ℤ) → x *ℤ pos 0 ≡ pos 0
times-zero x = *ℤ-zero x

-- one time more
pub times-suc : (x : ℤ) (n : ℕ) → x *ℤ pos (suc n) ≡ x *ℤ pos n +ℤ x
times-suc (pos a) n = omega (arith, ints, mul-suc a n)
times-suc (negsuc a) n = omega (arith, ints, mul-suc (suc a) n)

pub times-add : (x y : ℤ) (n : ℕ) → (x +ℤ y) *ℤ pos n ≡ x *ℤ pos n +ℤ y *ℤ pos n
times-add x y zero = omega (arith, ints, times-zero (x +ℤ y), times-zero x, times-zero y)
times-add x y (suc n) = omega (arith, ints, times-add x y n, times-suc (x +ℤ y) n, times-suc x n, times-suc y n)

pub times-neg : (x : ℤ) (n : ℕ) → neg_ℤ x *ℤ pos n ≡ neg_ℤ (x *ℤ pos n)
times-neg x zero = omega (arith, ints, times-zero (neg_ℤ x), times-zero x)
times-neg x (suc n) = omega (arith, ints, times-neg x n, times-suc (neg_ℤ x) n, times-suc x n)

pub times-sub : (x y : ℤ) (n : ℕ) → (x -ℤ y) *ℤ pos n ≡ x *ℤ pos n -ℤ y *ℤ pos n
times-sub x y n = omega (arith, ints, times-add x (neg_ℤ y) n, times-neg y n)

-- by a sum of two numbers
pub times-plus : (x : ℤ) (m n : ℕ) → x *ℤ pos (m + n) ≡ x *ℤ pos m +ℤ x *ℤ pos n
times-plus (pos a) m n = omega (arith, ints, mul-add a m n)
times-plus (negsuc a) m n = omega (arith, ints, mul-add (suc a) m n)

-- by a product
pub times-times : (x : ℤ) (m n : ℕ) → x *ℤ pos (m * n) ≡ x *ℤ pos m *ℤ pos n
times-times x m zero = omega (arith, ints, times-zero x, times-zero (x *ℤ pos m))
times-times x m (suc n) =
    ap (λ (k : ℕ). x *ℤ pos k) (mul-suc m n)
    ∙ omega (arith, ints, times-plus x (m * n) m, times-times x m n, times-suc (x *ℤ pos m) n)

pub times-le : (x y : ℤ) (n : ℕ) → x ≤ℤ y → (x *ℤ pos n) ≤ℤ (y *ℤ pos n)
times-le x y zero h = omega (arith, ints, times-zero x, times-zero y)
times-le x y (suc n) h = omega (arith, ints, times-le x y n h, times-suc x n, times-suc y n)

-- a number of times that is above 0 may be left out
pub times-cancel : (x y : ℤ) (n : ℕ) → 0 < n → (x *ℤ pos n) ≤ℤ (y *ℤ pos n) → x ≤ℤ y
times-cancel x y n above h = by_lt_z y x (λ l. absurd (omega (arith, ints, wider y x n l))) (λ l. l)

-- more times a number that is not below 0, or not above it
pub times-more : (x : ℤ) (m n : ℕ) → pos 0 ≤ℤ x → m ≤ n → (x *ℤ pos m) ≤ℤ (x *ℤ pos n)
times-more x m n h le = omega (arith, ints, times-le (pos 0) x (n - m) h, times-plus x m (n - m), ap (λ (k : ℕ). x *ℤ pos k) whole)
  where
    whole : m + (n - m) ≡ n
    whole = omega arith

pub times-less : (x : ℤ) (m n : ℕ) → x ≤ℤ pos 0 → m ≤ n → (x *ℤ pos n) ≤ℤ (x *ℤ pos m)
times-less x m n h le = omega (arith, ints, times-le x (pos 0) (n - m) h, times-plus x m (n - m), ap (λ (k : ℕ). x *ℤ pos k) whole)
  where
    whole : m + (n - m) ≡ n
    whole = omega arith

pub times-size : (x : ℤ) (n : ℕ) → unsigned_abs (x *ℤ pos n) ≡ unsigned_abs x * n
times-size x n = unsigned_abs-mul x (pos n)
