-- Operators on narrower intervals give narrower ones, and the tests of the rule on bounds still pass.
use Rattle.std.proofs.Common.{◌≡◌, ℕ, ◌+◌, ◌-◌, max, ◌≤◌, inl, inr, Bool, true, false, not, ◌&&◌, IsTrue, int_lt, ℤ, pos, ◌*ℤ◌, ◌<ℤ◌, neg_ℤ, unsigned_abs, refl, arith}
use Rattle.std.proofs.lemmas.Bool.{and_parts, and_from, le-leb}
use Rattle.std.proofs.lemmas.Int.{ints, clamps}
use Rattle.decimal.specs.declared.rounding.Mode.{Mode}
use Rattle.decimal.specs.Rounding.{raised, at_scale, divided}
use Rattle.term_model.specs.declared.terms.NumOp.{NumOp}
use Rattle.term_model.specs.declared.terms.NumOp.TheVariants.{Plus, Minus, Times, Min, Max}
use Rattle.term_model.specs.Bounds.{Interval, single, lifted, swapped, hull, corners, on_intervals, aligned, of_op, fits, fit_aligned, fit_operands, fit_divided, has_zero, greatest_size}
use Rattle.interval_check.specs.Within.{IsIn}
use Rattle.interval_check.specs.Narrowing.{IsNarrower}
use Rattle.interval_check.proofs.InclusionFacts.{in_single, in_left, in_right, in_product, in_negative, in_raised, in_rounded}
use Rattle.interval_check.proofs.DivisionFacts.{HasSign, in_quotient}
use Rattle.interval_check.proofs.TestFacts.{small_between, fits_from, small_in, division_fits}

pub narrower_single : (k : Interval) (m : ℤ) → IsIn k m → IsNarrower (single m) k
narrower_single k m h = record { low = h; high = h }

pub narrower_same : (m : ℤ) → IsNarrower (single m) (single m)
narrower_same m = narrower_single (single m) m (in_single m)

in_narrower : (i j : Interval) (m : ℤ) → IsNarrower i j → IsIn i m → IsIn j m
in_narrower i j m h inside =
    let low = h.low in
    let high = h.high in
    record { low = omega (arith, ints, low.low); high = omega (arith, ints, high.high) }

pub narrower_trans : (i j k : Interval) → IsNarrower i j → IsNarrower j k → IsNarrower i k
narrower_trans i j k h g = record { low = in_narrower j k i.low g h.low; high = in_narrower j k i.high g h.high }

-- the hull of two intervals that lie in another
narrower_hull : (i j k : Interval) → IsNarrower i k → IsNarrower j k → IsNarrower (hull i j) k
narrower_hull i j k h g =
    let a = h.low in
    let b = h.high in
    let c = g.low in
    let e = g.high in
    record {
      low = record { low = omega (arith, ints, clamps); high = omega (arith, ints, clamps) };
      high = record { low = omega (arith, ints, clamps); high = omega (arith, ints, clamps) };
    }

pub narrower_hulls : (i j k l : Interval) → IsNarrower i k → IsNarrower j l → IsNarrower (hull i j) (hull k l)
narrower_hulls i j k l h g =
    narrower_hull i j (hull k l) (record { low = in_left k l i.low h.low; high = in_left k l i.high h.high }) (record { low = in_right k l j.low g.low; high = in_right k l j.high g.high })

narrower_corners : (f : ℤ → ℤ → ℤ) (i j k : Interval) → IsIn k (f i.low j.low) → IsIn k (f i.low j.high) → IsIn k (f i.high j.low) → IsIn k (f i.high j.high) → IsNarrower (corners f i j) k
narrower_corners f i j k a b c e =
    narrower_hull (hull (single (f i.low j.low)) (single (f i.low j.high))) (hull (single (f i.high j.low)) (single (f i.high j.high))) k
    (narrower_hull (single (f i.low j.low)) (single (f i.low j.high)) k (narrower_single k _ a) (narrower_single k _ b))
    (narrower_hull (single (f i.high j.low)) (single (f i.high j.high)) k (narrower_single k _ c) (narrower_single k _ e))

narrower_product : (i j k l : Interval) → IsNarrower i k → IsNarrower j l → IsNarrower (corners (λ x y. x *ℤ y) i j) (corners (λ x y. x *ℤ y) k l)
narrower_product i j k l h g =
    narrower_corners (λ x y. x *ℤ y) i j (corners (λ x y. x *ℤ y) k l) (in_product k l i.low j.low h.low g.low) (in_product k l i.low j.high h.low g.high) (in_product k l i.high j.low h.high g.low) (in_product k l i.high j.high h.high g.high)

pub narrower_quotient : (mode : Mode) (a b s : ℕ) (i j k l : Interval) → HasSign l → IsNarrower i k → IsNarrower j l → IsNarrower (corners (λ x y. divided mode x a y b s) i j) (corners (λ x y. divided mode x a y b s) k l)
narrower_quotient mode a b s i j k l sign h g =
    narrower_corners (λ x y. divided mode x a y b s) i j (corners (λ x y. divided mode x a y b s) k l) (in_quotient mode k l i.low a j.low b s sign h.low g.low) (in_quotient mode k l i.low a j.high b s sign h.low g.high) (in_quotient mode k l i.high a j.low b s sign h.high g.low) (in_quotient mode k l i.high a j.high b s sign h.high g.high)

pub narrower_negative : (i k : Interval) → IsNarrower i k → IsNarrower (lifted neg_ℤ (swapped i)) (lifted neg_ℤ (swapped k))
narrower_negative i k h = record { low = in_negative k i.high h.high; high = in_negative k i.low h.low }

pub narrower_raised : (n : ℕ) (i k : Interval) → IsNarrower i k → IsNarrower (lifted (λ m. raised m n) i) (lifted (λ m. raised m n) k)
narrower_raised n i k h = record { low = in_raised k n i.low h.low; high = in_raised k n i.high h.high }

pub narrower_rounded : (mode : Mode) (a b : ℕ) (i k : Interval) → IsNarrower i k → IsNarrower (lifted (λ m. at_scale mode m a b) i) (lifted (λ m. at_scale mode m a b) k)
narrower_rounded mode a b i k h =
    record { low = in_rounded mode k a b i.low h.low; high = in_rounded mode k a b i.high h.high }

pub narrower_aligned : (a b : ℕ) (i k : Interval) → IsNarrower i k → IsNarrower (aligned a b i) (aligned a b k)
narrower_aligned a b i k h = narrower_raised (max a b - a) i k h

narrower_op : (op : NumOp) (i j k l : Interval) → IsNarrower i k → IsNarrower j l → IsNarrower (on_intervals op i j) (on_intervals op k l)
narrower_op Plus i j k l h g = record { low = let a = h.low in let b = g.low in record { low = omega (arith, ints); high = omega (arith, ints) }; high = let a = h.high in let b = g.high in record { low = omega (arith, ints); high = omega (arith, ints) } }
narrower_op Minus i j k l h g = record { low = let a = h.low in let b = g.high in record { low = omega (arith, ints); high = omega (arith, ints) }; high = let a = h.high in let b = g.low in record { low = omega (arith, ints); high = omega (arith, ints) } }
narrower_op Times i j k l h g = narrower_product i j k l h g
narrower_op Min i j k l h g = record { low = let a = h.low in let b = g.low in record { low = omega (arith, ints, clamps); high = omega (arith, ints, clamps) }; high = let a = h.high in let b = g.high in record { low = omega (arith, ints, clamps); high = omega (arith, ints, clamps) } }
narrower_op Max i j k l h g = record { low = let a = h.low in let b = g.low in record { low = omega (arith, ints, clamps); high = omega (arith, ints, clamps) }; high = let a = h.high in let b = g.high in record { low = omega (arith, ints, clamps); high = omega (arith, ints, clamps) } }

pub narrower_of_op : (op : NumOp) (a b : ℕ) (i j k l : Interval) → IsNarrower i k → IsNarrower j l → IsNarrower (of_op op a i b j) (of_op op a k b l)
narrower_of_op Times a b i j k l h g = narrower_product i j k l h g
narrower_of_op Plus a b i j k l h g = narrower_op Plus (aligned a b i) (aligned b a j) (aligned a b k) (aligned b a l) (narrower_aligned a b i k h) (narrower_aligned b a j l g)
narrower_of_op Minus a b i j k l h g = narrower_op Minus (aligned a b i) (aligned b a j) (aligned a b k) (aligned b a l) (narrower_aligned a b i k h) (narrower_aligned b a j l g)
narrower_of_op Min a b i j k l h g = narrower_op Min (aligned a b i) (aligned b a j) (aligned a b k) (aligned b a l) (narrower_aligned a b i k h) (narrower_aligned b a j l g)
narrower_of_op Max a b i j k l h g = narrower_op Max (aligned a b i) (aligned b a j) (aligned a b k) (aligned b a l) (narrower_aligned a b i k h) (narrower_aligned b a j l g)

-- tests

pub narrower_fits : (i k : Interval) → IsNarrower i k → IsTrue (fits k) → IsTrue (fits i)
narrower_fits i k h t = fits_from i (record { low = small_in k i.low t h.low; high = small_in k i.high t h.high })

pub narrower_fit_aligned : (a b : ℕ) (i j k l : Interval) → IsNarrower i k → IsNarrower j l → IsTrue (fit_aligned a k b l) → IsTrue (fit_aligned a i b j)
narrower_fit_aligned a b i j k l h g t =
    let parts = and_parts (fits (aligned a b k)) (fits (aligned b a l)) t in
    and_from (fits (aligned a b i)) (fits (aligned b a j)) (narrower_fits _ _ (narrower_aligned a b i k h) parts.0) (narrower_fits _ _ (narrower_aligned b a j l g) parts.1)

pub narrower_fit_operands : (op : NumOp) (a b : ℕ) (i j k l : Interval) → IsNarrower i k → IsNarrower j l → IsTrue (fit_operands op a k b l) → IsTrue (fit_operands op a i b j)
narrower_fit_operands Times a b i j k l h g t = refl
narrower_fit_operands Plus a b i j k l h g t = narrower_fit_aligned a b i j k l h g t
narrower_fit_operands Minus a b i j k l h g t = narrower_fit_aligned a b i j k l h g t
narrower_fit_operands Min a b i j k l h g t = narrower_fit_aligned a b i j k l h g t
narrower_fit_operands Max a b i j k l h g t = narrower_fit_aligned a b i j k l h g t

pub is_above : (x : ℤ) → pos 0 <ℤ x → int_lt (pos 0) x ≡ true
is_above x h = grind (arith, ints)

is_below : (x : ℤ) → x <ℤ pos 0 → int_lt x (pos 0) ≡ true
is_below x h = grind (arith, ints)

no_zero : (k : Interval) → HasSign k → IsTrue (not (has_zero k))
no_zero k (inl h) = by (int_lt (pos 0) k.low) (is_above k.low h)
  where
    by : (b : Bool) → b ≡ true → not (not b && not (int_lt k.high (pos 0))) ≡ true
    by true e = refl
    by false e = absurd (cc)
no_zero k (inr h) = by (int_lt (pos 0) k.low) (int_lt k.high (pos 0)) (is_below k.high h)
  where
    by : (b c : Bool) → c ≡ true → not (not b && not c) ≡ true
    by true true e = refl
    by false true e = refl
    by b false e = absurd (cc)

narrower_sign : (i k : Interval) → IsNarrower i k → HasSign k → HasSign i
narrower_sign i k h (inl sign) = let a = h.low in inl (omega (arith, ints))
narrower_sign i k h (inr sign) = let a = h.high in inr (omega (arith, ints))

pub narrower_fit_divided : (a b s : ℕ) (i j k l : Interval) → IsNarrower i k → IsNarrower j l → IsTrue (fit_divided a k b l s) → IsTrue (fit_divided a i b j s)
narrower_fit_divided a b s i j k l h g t =
    let known = division_fits a k b l s t in
    and_from _ _ (no_zero j (narrower_sign j l g known.sign))
    (and_from _ _ (le-leb (s + b) (a + 37) known.up)
    (and_from _ _ (le-leb a (s + b + 37) known.down)
    (and_from _ _ (narrower_fits _ _ (narrower_raised (s + b - a) i k h) known.top) (narrower_fits _ _ (narrower_raised (a - (s + b)) j l g) known.below))))

pub narrower_size : (i k : Interval) → IsNarrower i k → greatest_size i ≤ greatest_size k
narrower_size i k h = omega (arith, size i.low h.low, size i.high h.high)
  where
    size : (m : ℤ) → IsIn k m → unsigned_abs m ≤ greatest_size k
    size m inside = small_between k.low k.high m (greatest_size k) (omega arith) (omega arith) inside.low inside.high
