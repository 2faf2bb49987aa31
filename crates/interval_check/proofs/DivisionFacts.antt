-- A quotient lies between those of the end points of its operands, as long as the divisor keeps its sign.
use Rattle.std.proofs.Common.{◌≡◌, ◌≢◌, ℕ, zero, suc, ◌+◌, ◌-◌, ◌*◌, ◌^◌, ◌<◌, ◌≤◌, ◌⊎◌, inl, inr, ℤ, pos, negsuc, ◌≤ℤ◌, ◌<ℤ◌, neg_ℤ, refl, subst, arith}
use Rattle.std.proofs.Math.Nat.{mul-le-mul_right}
use Rattle.std.proofs.lemmas.Int.{ints, by_lt_z}
use Rattle.decimal.specs.declared.rounding.Mode.{Mode}
use Rattle.decimal.specs.Rounding.{raised, divided}
use Rattle.decimal.specs.Rounded.{IsRounded, IsRoundedQuotient}
use Rattle.decimal.proofs.PowerFacts.{ten_above}
use Rattle.decimal.proofs.RoundedFacts.{divides_to_scale}
use Rattle.term_model.specs.Bounds.{Interval, single, hull, corners}
use Rattle.interval_check.specs.Within.{IsIn}
use Rattle.interval_check.proofs.InclusionFacts.{between_up, between_down, in_corners}
use Rattle.interval_check.proofs.MultipleFacts.{times-more, times-less}
use Rattle.interval_check.proofs.RoundingFacts.{rounded_rises, rounded_across, raised_rises}

positive : (a b : ℕ) → 0 < a → 0 < b → 0 < a * b
positive a b ha hb =
    let one : 1 ≤ a = omega arith in
    omega (arith, mul-le-mul_right b one)

neg_of_pos : (n : ℕ) → 0 < n → neg_ℤ (pos n) ≡ negsuc (n - 1)
neg_of_pos n h = omega (arith, ints)

-- what is rounded, by the sign of the divisor

over_positive : (mode : Mode) (x : ℤ) (i n j s : ℕ) → 0 < n → IsRounded mode (raised x (s + j - i)) (n * 10 ^ (i - (s + j))) (divided mode x i (pos n) j s)
over_positive mode x i n j s h = divides_to_scale mode x i (pos n) j s (λ e. omega (arith, ints))

over_negative : (mode : Mode) (x : ℤ) (i n j s : ℕ) → IsRounded mode (neg_ℤ (raised x (s + j - i))) (suc n * 10 ^ (i - (s + j))) (divided mode x i (negsuc n) j s)
over_negative mode x i n j s =
    let size = suc n * 10 ^ (i - (s + j)) in
    let q = divided mode x i (negsuc n) j s in
    let above : 0 < size = positive (suc n) (10 ^ (i - (s + j))) (omega arith) (ten_above (i - (s + j))) in
    let known = divides_to_scale mode x i (negsuc n) j s (λ e. cc) in
    let at_sign = subst (λ (y : ℤ). IsRoundedQuotient mode (raised x (s + j - i)) y q) (neg_of_pos size above) known in
    let same : suc (size - 1) ≡ size = omega arith in
    subst (λ (m : ℕ). IsRounded mode (neg_ℤ (raised x (s + j - i))) m q) same at_sign

-- a greater numerator

rises_over_positive : (mode : Mode) (x y : ℤ) (i n j s : ℕ) → 0 < n → x ≤ℤ y → divided mode x i (pos n) j s ≤ℤ divided mode y i (pos n) j s
rises_over_positive mode x y i n j s h le =
    rounded_rises mode (raised x (s + j - i)) (raised y (s + j - i)) _ _ (n * 10 ^ (i - (s + j))) (positive n (10 ^ (i - (s + j))) h (ten_above (i - (s + j)))) (raised_rises x y (s + j - i) le) (over_positive mode x i n j s h) (over_positive mode y i n j s h)

falls_over_negative : (mode : Mode) (x y : ℤ) (i n j s : ℕ) → x ≤ℤ y → divided mode y i (negsuc n) j s ≤ℤ divided mode x i (negsuc n) j s
falls_over_negative mode x y i n j s le =
    rounded_rises mode (neg_ℤ (raised y (s + j - i))) (neg_ℤ (raised x (s + j - i))) _ _ (suc n * 10 ^ (i - (s + j))) (positive (suc n) (10 ^ (i - (s + j))) (omega arith) (ten_above (i - (s + j)))) (omega (arith, ints, raised_rises x y (s + j - i) le)) (over_negative mode y i n j s) (over_negative mode x i n j s)

pub quotient_across : (mode : Mode) (k : Interval) (x : ℤ) (i : ℕ) (y : ℤ) (j s : ℕ) → y ≢ pos 0 → IsIn k x → IsIn (hull (single (divided mode k.low i y j s)) (single (divided mode k.high i y j s))) (divided mode x i y j s)
quotient_across mode k x i (pos zero) j s nonzero h = absurd (nonzero refl)
quotient_across mode k x i (pos (suc n)) j s nonzero h =
    between_up _ _ _ (rises_over_positive mode k.low x i (suc n) j s (omega arith) h.low) (rises_over_positive mode x k.high i (suc n) j s (omega arith) h.high)
quotient_across mode k x i (negsuc n) j s nonzero h =
    between_down _ _ _ (falls_over_negative mode x k.high i n j s h.high) (falls_over_negative mode k.low x i n j s h.low)

-- a greater denominator of one sign

wider_size : (m n t : ℕ) → m ≤ n → m * t ≤ n * t
wider_size m n t h = mul-le-mul_right t h

falls_in_positive : (mode : Mode) (x : ℤ) (i m n j s : ℕ) → 0 < m → m ≤ n → pos 0 ≤ℤ x → divided mode x i (pos n) j s ≤ℤ divided mode x i (pos m) j s
falls_in_positive mode x i m n j s h le sign =
    let t = 10 ^ (i - (s + j)) in
    let z = raised x (s + j - i) in
    let up : pos 0 ≤ℤ z = omega (arith, ints, raised_rises (pos 0) x (s + j - i) sign) in
    rounded_across mode z (n * t) _ z (m * t) _ (positive n t (omega arith) (ten_above (i - (s + j)))) (positive m t h (ten_above (i - (s + j)))) (times-more z (m * t) (n * t) up (wider_size m n t le)) (over_positive mode x i n j s (omega arith)) (over_positive mode x i m j s h)

rises_in_positive : (mode : Mode) (x : ℤ) (i m n j s : ℕ) → 0 < m → m ≤ n → x ≤ℤ pos 0 → divided mode x i (pos m) j s ≤ℤ divided mode x i (pos n) j s
rises_in_positive mode x i m n j s h le sign =
    let t = 10 ^ (i - (s + j)) in
    let z = raised x (s + j - i) in
    let down : z ≤ℤ pos 0 = omega (arith, ints, raised_rises x (pos 0) (s + j - i) sign) in
    rounded_across mode z (m * t) _ z (n * t) _ (positive m t h (ten_above (i - (s + j)))) (positive n t (omega arith) (ten_above (i - (s + j)))) (times-less z (m * t) (n * t) down (wider_size m n t le)) (over_positive mode x i m j s h) (over_positive mode x i n j s (omega arith))

falls_in_negative : (mode : Mode) (x : ℤ) (i m n j s : ℕ) → m ≤ n → pos 0 ≤ℤ x → divided mode x i (negsuc m) j s ≤ℤ divided mode x i (negsuc n) j s
falls_in_negative mode x i m n j s le sign =
    let t = 10 ^ (i - (s + j)) in
    let z = neg_ℤ (raised x (s + j - i)) in
    let down : z ≤ℤ pos 0 = omega (arith, ints, raised_rises (pos 0) x (s + j - i) sign) in
    rounded_across mode z (suc m * t) _ z (suc n * t) _ (positive (suc m) t (omega arith) (ten_above (i - (s + j)))) (positive (suc n) t (omega arith) (ten_above (i - (s + j)))) (times-less z (suc m * t) (suc n * t) down (wider_size (suc m) (suc n) t (omega arith))) (over_negative mode x i m j s) (over_negative mode x i n j s)

rises_in_negative : (mode : Mode) (x : ℤ) (i m n j s : ℕ) → m ≤ n → x ≤ℤ pos 0 → divided mode x i (negsuc n) j s ≤ℤ divided mode x i (negsuc m) j s
rises_in_negative mode x i m n j s le sign =
    let t = 10 ^ (i - (s + j)) in
    let z = neg_ℤ (raised x (s + j - i)) in
    let up : pos 0 ≤ℤ z = omega (arith, ints, raised_rises x (pos 0) (s + j - i) sign) in
    rounded_across mode z (suc n * t) _ z (suc m * t) _ (positive (suc n) t (omega arith) (ten_above (i - (s + j)))) (positive (suc m) t (omega arith) (ten_above (i - (s + j)))) (times-more z (suc m * t) (suc n * t) up (wider_size (suc m) (suc n) t (omega arith))) (over_negative mode x i n j s) (over_negative mode x i m j s)

-- an interval without 0, by its sign

along_positive : (mode : Mode) (x : ℤ) (i a m b j s : ℕ) → 0 < a → a ≤ m → m ≤ b → IsIn (hull (single (divided mode x i (pos a) j s)) (single (divided mode x i (pos b) j s))) (divided mode x i (pos m) j s)
along_positive mode x i a m b j s above h k =
    by_lt_z x (pos 0)
    (λ less. let sign : x ≤ℤ pos 0 = omega (arith, ints) in between_up _ _ _ (rises_in_positive mode x i a m j s above h sign) (rises_in_positive mode x i m b j s (omega arith) k sign))
    (λ sign. between_down _ _ _ (falls_in_positive mode x i m b j s (omega arith) k sign) (falls_in_positive mode x i a m j s above h sign))

along_negative : (mode : Mode) (x : ℤ) (i a m b j s : ℕ) → b ≤ m → m ≤ a → IsIn (hull (single (divided mode x i (negsuc a) j s)) (single (divided mode x i (negsuc b) j s))) (divided mode x i (negsuc m) j s)
along_negative mode x i a m b j s h k =
    by_lt_z x (pos 0)
    (λ less. let sign : x ≤ℤ pos 0 = omega (arith, ints) in between_up _ _ _ (rises_in_negative mode x i m a j s k sign) (rises_in_negative mode x i b m j s h sign))
    (λ sign. between_down _ _ _ (falls_in_negative mode x i b m j s h sign) (falls_in_negative mode x i m a j s k sign))

-- an interval has no zero: its numbers have one sign
abbrev pub HasSign : Interval → Type 0
HasSign k = (pos 0 <ℤ k.low) ⊎ (k.high <ℤ pos 0)

along : (mode : Mode) (x : ℤ) (i : ℕ) (lo y hi : ℤ) (j s : ℕ) → (pos 0 <ℤ lo) ⊎ (hi <ℤ pos 0) → lo ≤ℤ y → y ≤ℤ hi → IsIn (hull (single (divided mode x i lo j s)) (single (divided mode x i hi j s))) (divided mode x i y j s)
along mode x i (pos a) (pos m) (pos b) j s (inl sign) h k = along_positive mode x i a m b j s (omega (arith, ints)) (omega (arith, ints)) (omega (arith, ints))
along mode x i (pos a) (pos m) (pos b) j s (inr sign) h k = absurd (omega (arith, ints))
along mode x i (pos a) (pos m) (negsuc b) j s sign h k = absurd (omega (arith, ints))
along mode x i (pos a) (negsuc m) hi j s sign h k = absurd (omega (arith, ints))
along mode x i (negsuc a) y hi j s (inl sign) h k = absurd (omega (arith, ints))
along mode x i (negsuc a) y (pos b) j s (inr sign) h k = absurd (omega (arith, ints))
along mode x i (negsuc a) (pos m) (negsuc b) j s (inr sign) h k = absurd (omega (arith, ints))
along mode x i (negsuc a) (negsuc m) (negsuc b) j s (inr sign) h k = along_negative mode x i a m b j s (omega (arith, ints)) (omega (arith, ints))

-- a number of an interval with a sign is not 0
pub sign_nonzero : (k : Interval) (y : ℤ) → HasSign k → IsIn k y → y ≢ pos 0
sign_nonzero k y (inl sign) h e = omega (arith, ints)
sign_nonzero k y (inr sign) h e = omega (arith, ints)

pub in_quotient : (mode : Mode) (k l : Interval) (x : ℤ) (i : ℕ) (y : ℤ) (j s : ℕ) → HasSign l → IsIn k x → IsIn l y → IsIn (corners (λ a b. divided mode a i b j s) k l) (divided mode x i y j s)
in_quotient mode k l x i y j s sign h g =
    in_corners (λ a b. divided mode a i b j s) k l x y (quotient_across mode k x i y j s (sign_nonzero l y sign g) h) (along mode k.low i l.low y l.high j s sign g.low g.high) (along mode k.high i l.low y l.high j s sign g.low g.high)
