-- What the tests of the rule on bounds say of intervals and of the numbers in them.
use Rattle.std.proofs.Common.{◌≡◌, ℕ, ◌+◌, ◌-◌, max, ◌≤◌, inl, inr, Bool, true, false, not, ◌&&◌, nat_le, IsTrue, int_lt, ℤ, pos, ◌≤ℤ◌, ◌<ℤ◌, unsigned_abs, refl, arith}
use Rattle.std.proofs.lemmas.Bool.{and_parts, and_from, leb-true, le-leb}
use Rattle.std.proofs.lemmas.Int.{ints}
use Rattle.decimal.specs.Rounding.{raised, DivFits}
use Rattle.term_model.specs.Limits.{greatest_mantissa}
use Rattle.term_model.specs.Bounds.{Interval, lifted, aligned, fits, fit_aligned, fit_divided, has_zero}
use Rattle.interval_check.specs.Intervals.{EndsFit}
use Rattle.interval_check.specs.Within.{IsIn}
use Rattle.interval_check.specs.Safety.{IsSmall, AlignSafely}
use Rattle.interval_check.proofs.InclusionFacts.{in_raised, in_aligned_left, in_aligned_right}
use Rattle.interval_check.proofs.DivisionFacts.{HasSign}

pub small_between : (lo hi m : ℤ) (most : ℕ) → unsigned_abs lo ≤ most → unsigned_abs hi ≤ most → lo ≤ℤ m → m ≤ℤ hi → unsigned_abs m ≤ most
small_between lo hi m most h k below above = omega (arith, ints)

pub ends_fit : (i : Interval) → IsTrue (fits i) → EndsFit i
ends_fit i h =
    let parts = and_parts (nat_le (unsigned_abs i.low) greatest_mantissa) (nat_le (unsigned_abs i.high) greatest_mantissa) h in
    record { low = leb-true (unsigned_abs i.low) greatest_mantissa parts.0; high = leb-true (unsigned_abs i.high) greatest_mantissa parts.1 }

pub fits_from : (i : Interval) → EndsFit i → IsTrue (fits i)
fits_from i h =
    and_from _ _ (le-leb (unsigned_abs i.low) greatest_mantissa h.low) (le-leb (unsigned_abs i.high) greatest_mantissa h.high)

pub small_in : (i : Interval) (m : ℤ) → IsTrue (fits i) → IsIn i m → IsSmall m
small_in i m h inside =
    let ends = ends_fit i h in
    small_between i.low i.high m greatest_mantissa ends.low ends.high inside.low inside.high

pub align_in : (a b : ℕ) (i j : Interval) (x y : ℤ) → IsTrue (fit_aligned a i b j) → IsIn i x → IsIn j y → AlignSafely a x b y
align_in a b i j x y h in_i in_j =
    let parts = and_parts (fits (aligned a b i)) (fits (aligned b a j)) h in
    record {
      left = small_in (aligned a b i) (raised x (max a b - a)) parts.0 (in_aligned_left a b i x in_i);
      right = small_in (aligned b a j) (raised y (max a b - b)) parts.1 (in_aligned_right a b j y in_j);
    }

above_zero : (x : ℤ) → int_lt (pos 0) x ≡ true → pos 0 <ℤ x
above_zero x h = grind (arith, ints)

below_zero : (x : ℤ) → int_lt x (pos 0) ≡ true → x <ℤ pos 0
below_zero x h = grind (arith, ints)

sign_by : (k : Interval) (b c : Bool) → int_lt (pos 0) k.low ≡ b → int_lt k.high (pos 0) ≡ c → IsTrue (not (not b && not c)) → HasSign k
sign_by k true c e g h = inl (above_zero k.low e)
sign_by k false true e g h = inr (below_zero k.high g)
sign_by k false false e g h = absurd (cc)

pub sign_of : (k : Interval) → IsTrue (not (has_zero k)) → HasSign k
sign_of k h = sign_by k (int_lt (pos 0) k.low) (int_lt k.high (pos 0)) refl refl h

-- what a division asks
pub record DivisionFits (a : ℕ) (i : Interval) (b : ℕ) (j : Interval) (s : ℕ) : Type 0 where
  pub sign : HasSign j
  pub up : s + b ≤ a + 37
  pub down : a ≤ s + b + 37
  pub top : IsTrue (fits (lifted (λ m. raised m (s + b - a)) i))
  pub below : IsTrue (fits (lifted (λ m. raised m (a - (s + b))) j))

pub division_fits : (a : ℕ) (i : Interval) (b : ℕ) (j : Interval) (s : ℕ) → IsTrue (fit_divided a i b j s) → DivisionFits a i b j s
division_fits a i b j s h =
    let one = and_parts (not (has_zero j)) _ h in
    let two = and_parts (nat_le (s + b) (a + 37)) _ one.1 in
    let three = and_parts (nat_le a (s + b + 37)) _ two.1 in
    let four = and_parts (fits (lifted (λ m. raised m (s + b - a)) i)) _ three.1 in
    record { sign = sign_of j one.0; up = leb-true _ _ two.0; down = leb-true _ _ three.0; top = four.0; below = four.1 }

pub divide_in : (a : ℕ) (i : Interval) (b : ℕ) (j : Interval) (s : ℕ) (x y : ℤ) → DivisionFits a i b j s → IsIn i x → IsIn j y → DivFits x a y b s
divide_in a i b j s x y h in_i in_j = (
  small_in _ _ h.top (in_raised i (s + b - a) x in_i),
  small_in _ _ h.below (in_raised j (a - (s + b)) y in_j),
  h.up,
  h.down,
)
