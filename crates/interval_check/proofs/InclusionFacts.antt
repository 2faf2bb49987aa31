-- Numbers in intervals: hulls, corners, and each operator on end points.
use Rattle.std.proofs.Common.{◌≡◌, ℕ, suc, ◌-◌, max, ℤ, pos, negsuc, ◌*ℤ◌, ◌≤ℤ◌, neg_ℤ, subst, arith}
use Rattle.std.proofs.Math.IntN.{*ℤ_comm, *ℤ-negsuc}
use Rattle.std.proofs.lemmas.Int.{ints, clamps}
use Rattle.decimal.specs.declared.rounding.Mode.{Mode}
use Rattle.decimal.specs.Rounding.{raised, at_scale}
use Rattle.term_model.specs.declared.terms.NumOp.{NumOp}
use Rattle.term_model.specs.declared.terms.NumOp.TheVariants.{Plus, Minus, Times, Min, Max}
use Rattle.term_model.specs.Values.{num_op, of_num}
use Rattle.term_model.specs.Bounds.{Interval, single, lifted, swapped, hull, corners, on_intervals, aligned, of_op}
use Rattle.interval_check.specs.Within.{IsIn}
use Rattle.interval_check.proofs.MultipleFacts.{times-le}
use Rattle.interval_check.proofs.RoundingFacts.{raised_rises, at_scale_rises}

pub in_single : (m : ℤ) → IsIn (single m) m
in_single m = record { low = omega (arith, ints); high = omega (arith, ints) }

pub between_up : (a b m : ℤ) → a ≤ℤ m → m ≤ℤ b → IsIn (hull (single a) (single b)) m
between_up a b m h k = record { low = omega (arith, ints, clamps); high = omega (arith, ints, clamps) }

pub between_down : (a b m : ℤ) → b ≤ℤ m → m ≤ℤ a → IsIn (hull (single a) (single b)) m
between_down a b m h k = record { low = omega (arith, ints, clamps); high = omega (arith, ints, clamps) }

pub in_left : (i j : Interval) (m : ℤ) → IsIn i m → IsIn (hull i j) m
in_left i j m h = record { low = omega (arith, ints, clamps); high = omega (arith, ints, clamps) }

pub in_right : (i j : Interval) (m : ℤ) → IsIn j m → IsIn (hull i j) m
in_right i j m h = record { low = omega (arith, ints, clamps); high = omega (arith, ints, clamps) }

-- an interval holds what lies between two of its numbers
pub in_between : (k : Interval) (a b m : ℤ) → IsIn k a → IsIn k b → IsIn (hull (single a) (single b)) m → IsIn k m
in_between k a b m h g between = record { low = omega (arith, ints, clamps); high = omega (arith, ints, clamps) }

-- where a function lies between its values at the end points of each operand, its values lie in the hull of the corners
pub in_corners : (f : ℤ → ℤ → ℤ) (i j : Interval) (x y : ℤ) → IsIn (hull (single (f i.low y)) (single (f i.high y))) (f x y) → IsIn (hull (single (f i.low j.low)) (single (f i.low j.high))) (f i.low y) → IsIn (hull (single (f i.high j.low)) (single (f i.high j.high))) (f i.high y) → IsIn (corners f i j) (f x y)
in_corners f i j x y across at_low at_high =
    in_between (corners f i j) (f i.low y) (f i.high y) (f x y) (in_left lows highs (f i.low y) at_low) (in_right lows highs (f i.high y) at_high) across
  where
    lows : Interval
    lows = hull (single (f i.low j.low)) (single (f i.low j.high))

    highs : Interval
    highs = hull (single (f i.high j.low)) (single (f i.high j.high))

product_across : (i : Interval) (x y : ℤ) → IsIn i x → IsIn (hull (single (i.low *ℤ y)) (single (i.high *ℤ y))) (x *ℤ y)
product_across i x (pos n) h =
    between_up (i.low *ℤ pos n) (i.high *ℤ pos n) (x *ℤ pos n) (times-le i.low x n h.low) (times-le x i.high n h.high)
product_across i x (negsuc n) h =
    between_down (i.low *ℤ negsuc n) (i.high *ℤ negsuc n) (x *ℤ negsuc n) (omega (arith, ints, times-le x i.high (suc n) h.high, *ℤ-negsuc x n, *ℤ-negsuc i.high n)) (omega (arith, ints, times-le i.low x (suc n) h.low, *ℤ-negsuc x n, *ℤ-negsuc i.low n))

product_along : (j : Interval) (x y : ℤ) → IsIn j y → IsIn (hull (single (x *ℤ j.low)) (single (x *ℤ j.high))) (x *ℤ y)
product_along j x y h =
    let turned = product_across j y x h in
    record {
      low = omega (arith, ints, clamps, *ℤ_comm x y, *ℤ_comm x j.low, *ℤ_comm x j.high);
      high = omega (arith, ints, clamps, *ℤ_comm x y, *ℤ_comm x j.low, *ℤ_comm x j.high);
    }

pub in_product : (i j : Interval) (x y : ℤ) → IsIn i x → IsIn j y → IsIn (corners (λ a b. a *ℤ b) i j) (x *ℤ y)
in_product i j x y h k =
    in_corners (λ a b. a *ℤ b) i j x y (product_across i x y h) (product_along j i.low y k) (product_along j i.high y k)

pub in_negative : (i : Interval) (m : ℤ) → IsIn i m → IsIn (lifted neg_ℤ (swapped i)) (neg_ℤ m)
in_negative i m h = record { low = omega (arith, ints); high = omega (arith, ints) }

pub in_raised : (i : Interval) (k : ℕ) (m : ℤ) → IsIn i m → IsIn (lifted (λ x. raised x k) i) (raised m k)
in_raised i k m h = record { low = raised_rises i.low m k h.low; high = raised_rises m i.high k h.high }

pub in_rounded : (mode : Mode) (i : Interval) (a b : ℕ) (m : ℤ) → IsIn i m → IsIn (lifted (λ x. at_scale mode x a b) i) (at_scale mode m a b)
in_rounded mode i a b m h =
    record { low = at_scale_rises mode i.low m a b h.low; high = at_scale_rises mode m i.high a b h.high }

-- an operator on numbers of one scale
in_op : (op : NumOp) (i j : Interval) (x y : ℤ) → IsIn i x → IsIn j y → IsIn (on_intervals op i j) (num_op op x y)
in_op Plus i j x y h k = record { low = omega (arith, ints); high = omega (arith, ints) }
in_op Minus i j x y h k = record { low = omega (arith, ints); high = omega (arith, ints) }
in_op Times i j x y h k = in_product i j x y h k
in_op Min i j x y h k = record { low = omega (arith, ints, clamps); high = omega (arith, ints, clamps) }
in_op Max i j x y h k = record { low = omega (arith, ints, clamps); high = omega (arith, ints, clamps) }

-- numbers at the greater of two scales
pub in_aligned_left : (a b : ℕ) (i : Interval) (x : ℤ) → IsIn i x → IsIn (aligned a b i) (raised x (max a b - a))
in_aligned_left a b i x h = in_raised i (max a b - a) x h

pub in_aligned_right : (a b : ℕ) (j : Interval) (y : ℤ) → IsIn j y → IsIn (aligned b a j) (raised y (max a b - b))
in_aligned_right a b j y h =
    subst (λ (k : ℕ). IsIn (aligned b a j) (raised y k)) same (in_raised j (max b a - b) y h)
  where
    same : max b a - b ≡ max a b - b
    same = omega arith

pub in_of_op : (op : NumOp) (a b : ℕ) (i j : Interval) (x y : ℤ) → IsIn i x → IsIn j y → IsIn (of_op op a i b j) (of_num op a x b y)
in_of_op Times a b i j x y h k = in_product i j x y h k
in_of_op Plus a b i j x y h k = in_op Plus (aligned a b i) (aligned b a j) _ _ (in_aligned_left a b i x h) (in_aligned_right a b j y k)
in_of_op Minus a b i j x y h k = in_op Minus (aligned a b i) (aligned b a j) _ _ (in_aligned_left a b i x h) (in_aligned_right a b j y k)
in_of_op Min a b i j x y h k = in_op Min (aligned a b i) (aligned b a j) _ _ (in_aligned_left a b i x h) (in_aligned_right a b j y k)
in_of_op Max a b i j x y h k = in_op Max (aligned a b i) (aligned b a j) _ _ (in_aligned_left a b i x h) (in_aligned_right a b j y k)
