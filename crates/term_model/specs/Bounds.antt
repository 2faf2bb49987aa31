-- The interval in which the mantissa of each numeric expression lies, by interval arithmetic on end points, the total
-- that a contract can pay, and the rule on bounds.
use Rattle.std.specs.Prelude.{ℕ, zero, suc, ℤ, pos, ◌+ℤ◌, ◌-ℤ◌, ◌*ℤ◌, neg_ℤ, int_lt, ◌+◌, ◌-◌, ◌*◌, ◌^◌, max, ◌&&◌, not, Bool, true, List, [], ◌∷◌, Option, Some, None, slice_get, unsigned_abs, nat_le, map}
use Rattle.std.specs.Int.{int_min, int_max}
use Rattle.decimal.specs.Rounding.{raised, at_scale, divided}
use Rattle.term_model.specs.Declarations.{Declarations}
use Rattle.term_model.specs.declared.label.Label.{Label}
use Rattle.term_model.specs.declared.label.Label.TheVariants.{Number as NumberLabel, Flag}
use Rattle.term_model.specs.declared.terms.NumOp.{NumOp}
use Rattle.term_model.specs.declared.terms.NumOp.TheVariants.{Plus, Minus, Times, Min, Max}
use Rattle.term_model.specs.declared.values.Kind.{Kind}
use Rattle.term_model.specs.Terms.{Expression, Lit, Yes, Var, Obs, Neg, Num, Cmp, Not, Logic, Cond, Widen, Round, Div, Acc}
use Rattle.term_model.specs.Terms.{Contract, Zero, Pay, Both, Scale, After, Let, Within}
use Rattle.term_model.specs.Limits.{greatest_mantissa}
use Rattle.term_model.specs.Environments.{label_of}
use Rattle.term_model.specs.Kinds.{kind_of, scale_of, scale_of_kind}
use Rattle.term_model.specs.Values.{kind_or}
use Rattle.term_model.specs.Flows.{scale_of_contract}
use Rattle.term_model.specs.Sites.{Layer, Naming, Counting, Later, Earlier, Undated, Site, Part, OfExpression, OfContract}

-- the mantissas from the least to the greatest
pub record Interval : Type 0 where
  pub low : ℤ
  pub high : ℤ

-- what a name has
pub record Range : Type 0 where
  pub interval : Interval
  pub kind : Kind

abbrev pub range_kinds : List Range → List Kind
range_kinds rs = map (λ r. r.kind) rs

abbrev pub single : ℤ → Interval
single m = record { low = m; high = m }

abbrev pub lifted : (ℤ → ℤ) → Interval → Interval
lifted f i = record { low = f i.low; high = f i.high }

abbrev pub swapped : Interval → Interval
swapped i = record { low = i.high; high = i.low }

abbrev pub hull : Interval → Interval → Interval
hull i j = record { low = int_min i.low j.low; high = int_max i.high j.high }

-- the least interval that holds a function's values at the four pairs of end points
abbrev pub corners : (ℤ → ℤ → ℤ) → Interval → Interval → Interval
corners f i j = hull (hull (single (f i.low j.low)) (single (f i.low j.high))) (hull (single (f i.high j.low)) (single (f i.high j.high)))

-- an operator on two intervals of one scale, but for a product
abbrev pub on_intervals : NumOp → Interval → Interval → Interval
on_intervals Plus i j = record { low = i.low +ℤ j.low; high = i.high +ℤ j.high }
on_intervals Minus i j = record { low = i.low -ℤ j.high; high = i.high -ℤ j.low }
on_intervals Times i j = corners (λ x y. x *ℤ y) i j
on_intervals Min i j = record { low = int_min i.low j.low; high = int_min i.high j.high }
on_intervals Max i j = record { low = int_max i.low j.low; high = int_max i.high j.high }

-- an interval of scale a at the greater of a and b
abbrev pub aligned : ℕ → ℕ → Interval → Interval
aligned a b i = lifted (λ m. raised m (max a b - a)) i

-- intervals of scales a and b under an operator
abbrev pub of_op : NumOp → ℕ → Interval → ℕ → Interval → Interval
of_op Times a i b j = on_intervals Times i j
of_op op a i b j = on_intervals op (aligned a b i) (aligned b a j)

abbrev pub interval_of_label : Option Label → Interval
interval_of_label None = single (pos 0)
interval_of_label (Some Flag) = single (pos 0)
interval_of_label (Some (NumberLabel scale low high)) = record { low = low; high = high }

abbrev pub interval_of_range : Option Range → Interval
interval_of_range None = single (pos 0)
interval_of_range (Some r) = r.interval

-- a step for each day
abbrev pub stepped : ℕ → (Interval → Interval) → Interval → Interval
stepped zero step i = i
stepped (suc n) step i = step (stepped n step i)

-- the interval of an expression, where each name has its range; a truth value has that of 0
abbrev pub interval_of : Declarations → Expression → List Range → Interval
interval_of d (Lit m s) g = single m
interval_of d (Yes b) g = single (pos 0)
interval_of d (Var back) g = interval_of_range (slice_get g back)
interval_of d (Obs l t) g = interval_of_label (label_of d l)
interval_of d (Neg e) g = lifted neg_ℤ (swapped (interval_of d e g))
interval_of d (Num op a b) g =
    of_op op (scale_of d a (range_kinds g)) (interval_of d a g) (scale_of d b (range_kinds g)) (interval_of d b g)
interval_of d (Cmp op a b) g = single (pos 0)
interval_of d (Not e) g = single (pos 0)
interval_of d (Logic op a b) g = single (pos 0)
interval_of d (Cond t a b) g =
    let i = scale_of d a (range_kinds g) in
    let j = scale_of d b (range_kinds g) in
    hull (aligned i j (interval_of d a g)) (aligned j i (interval_of d b g))
interval_of d (Widen s e) g = lifted (λ m. raised m (s - scale_of d e (range_kinds g))) (interval_of d e g)
interval_of d (Round mode s e) g = lifted (λ m. at_scale mode m (scale_of d e (range_kinds g)) s) (interval_of d e g)
interval_of d (Div mode s a b) g =
    let i = scale_of d a (range_kinds g) in
    let j = scale_of d b (range_kinds g) in
    corners (λ x y. divided mode x i y j s) (interval_of d a g) (interval_of d b g)
interval_of d (Acc body n first) g =
    let k = kind_or (kind_of d first (range_kinds g)) in
    let more = scale_of_kind k - scale_of d body (k ∷ range_kinds g) in
    let next : Interval → Interval = λ i. interval_of d body (record { interval = i; kind = k } ∷ g) in
    stepped n (λ i. lifted (λ m. raised m more) (next i)) (interval_of d first g)

-- what a name that is bound to an expression has
abbrev pub range_of : Declarations → Expression → List Range → Range
range_of d e g = record { interval = interval_of d e g; kind = kind_or (kind_of d e (range_kinds g)) }

-- what the name of an accumulator has in its body, after some days
abbrev pub range_after : Declarations → Expression → ℕ → Expression → List Range → Range
range_after d body i first g =
    record { interval = interval_of d (Acc body i first) g; kind = kind_or (kind_of d first (range_kinds g)) }

-- the ranges of the names that stand round a node; in an accumulator's body the name has the interval of the value
-- after the days before
abbrev pub ranges_round : Declarations → List Layer → List Range
ranges_round d [] = []
ranges_round d (Naming e ∷ r) = range_of d e (ranges_round d r) ∷ ranges_round d r
ranges_round d (Counting body n first ∷ r) = range_after d body n first (ranges_round d r) ∷ ranges_round d r
ranges_round d (Later n ∷ r) = ranges_round d r
ranges_round d (Earlier n ∷ r) = ranges_round d r
ranges_round d (Undated ∷ r) = ranges_round d r

-- both end points are at most 10^37 in size
abbrev pub fits : Interval → Bool
fits i = nat_le (unsigned_abs i.low) greatest_mantissa && nat_le (unsigned_abs i.high) greatest_mantissa

-- intervals of scales a and b, each at the greater of the two
abbrev pub fit_aligned : ℕ → Interval → ℕ → Interval → Bool
fit_aligned a i b j = fits (aligned a b i) && fits (aligned b a j)

-- the operands of an operator; a product aligns none
abbrev pub fit_operands : NumOp → ℕ → Interval → ℕ → Interval → Bool
fit_operands Times a i b j = true
fit_operands op a i b j = fit_aligned a i b j

abbrev pub has_zero : Interval → Bool
has_zero i = not (int_lt (pos 0) i.low) && not (int_lt i.high (pos 0))

-- numerator of scale a, denominator of scale b and quotient of scale s: the denominator is never 0, and the power of
-- ten by which one of the two is multiplied is at most 10^37, and so is the outcome
abbrev pub fit_divided : ℕ → Interval → ℕ → Interval → ℕ → Bool
fit_divided a i b j s =
    not (has_zero j)
    && (nat_le (s + b) (a + 37)
    && (nat_le a (s + b + 37)
    && (fits (lifted (λ m. raised m (s + b - a)) i)
    && fits (lifted (λ m. raised m (a - (s + b))) j))))

-- what an operator asks of the intervals of its operands
abbrev pub operands_fit : Declarations → List Range → Expression → Bool
operands_fit d g (Num op a b) =
    fit_operands op (scale_of d a (range_kinds g)) (interval_of d a g) (scale_of d b (range_kinds g)) (interval_of d b g)
operands_fit d g (Cmp op a b) =
    fit_aligned (scale_of d a (range_kinds g)) (interval_of d a g) (scale_of d b (range_kinds g)) (interval_of d b g)
operands_fit d g (Cond t a b) =
    fit_aligned (scale_of d a (range_kinds g)) (interval_of d a g) (scale_of d b (range_kinds g)) (interval_of d b g)
operands_fit d g (Div mode s a b) =
    fit_divided (scale_of d a (range_kinds g)) (interval_of d a g) (scale_of d b (range_kinds g)) (interval_of d b g) s
operands_fit d g _ = true

-- the greatest size in an interval
abbrev pub greatest_size : Interval → ℕ
greatest_size i = max (unsigned_abs i.low) (unsigned_abs i.high)

-- the most that a contract can pay over all days, for a pair of parties and an asset, in units of its scale
abbrev pub total_of : Declarations → Contract → List Range → ℕ
total_of d Zero g = 0
total_of d (Pay a p q) g = 1
total_of d (Both a b) g =
    let i = scale_of_contract d a (range_kinds g) in
    let j = scale_of_contract d b (range_kinds g) in
    total_of d a g * 10 ^ (max i j - i) + total_of d b g * 10 ^ (max i j - j)
total_of d (Scale e c) g = total_of d c g * greatest_size (interval_of d e g)
total_of d (After n c) g = total_of d c g
total_of d (Let e c) g = total_of d c (range_of d e g ∷ g)
total_of d (Within e n a b) g =
    let i = scale_of_contract d a (range_kinds g) in
    let j = scale_of_contract d b (range_kinds g) in
    max (total_of d a g * 10 ^ (max i j - i)) (total_of d b g * 10 ^ (max i j - j))

-- the total at the portfolio's decimals
abbrev pub aligned_total : Declarations → Contract → List Range → ℕ
aligned_total d c g = total_of d c g * 10 ^ (d.amounts - scale_of_contract d c (range_kinds g))

abbrev pub greatest_total : ℕ
greatest_total = 10 ^ 27

abbrev pub part_is_bounded : Declarations → List Range → Part → Bool
part_is_bounded d g (OfExpression e) = operands_fit d g e && fits (interval_of d e g)
part_is_bounded d g (OfContract c) = nat_le (total_of d c g) greatest_total && nat_le (aligned_total d c g) greatest_total

abbrev pub is_bounded : Declarations → Site → Bool
is_bounded d s = part_is_bounded d (ranges_round d s.layers) s.part
