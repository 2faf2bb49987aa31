-- The range of an expression, or the place of its first node that breaks the rule on bounds, counted from the
-- expression's own first node. This goes by structure, each part once, and an accumulator's body once for each day;
-- proofs/RangeFacts shows that it finds what the rule says.
pub use Rattle.term_model.specs.Branches.{either as kind_of_either}
use Rattle.std.specs.Prelude.{ℕ, zero, suc, pos, neg_ℤ, ◌+◌, ◌-◌, ◌≤◌, List, ◌∷◌, Option, Some, None, Result, Ok, Err, if◌then◌else◌, slice_get}
use Rattle.decimal.specs.declared.rounding.Mode.{Mode}
use Rattle.decimal.specs.Rounding.{raised, at_scale, divided}
use Rattle.term_model.specs.declared.terms.NumOp.{NumOp}
use Rattle.term_model.specs.declared.terms.NumOp.TheVariants.{Times}
use Rattle.term_model.specs.declared.values.Kind.{Kind}
use Rattle.term_model.specs.declared.values.Kind.TheVariants.{Truth, Number}
use Rattle.term_model.specs.declared.label.Label.{Label}
use Rattle.term_model.specs.Declarations.{Declarations}
use Rattle.term_model.specs.Terms.{Expression, Lit, Yes, Var, Obs, Neg, Num, Cmp, Not, Logic, Cond, Widen, Round, Div, Acc}
use Rattle.term_model.specs.Environments.{label_of}
use Rattle.term_model.specs.Kinds.{kind_of_label, scale_of_kind, scale_of_op}
use Rattle.term_model.specs.Values.{kind_or}
use Rattle.term_model.specs.Sizes.{nodes}
use Rattle.term_model.specs.Bounds.{Interval, Range, single, lifted, swapped, hull, corners, aligned, on_intervals, interval_of_label, fit_divided}
use Rattle.term_core.specs.Trying.{then_do, moved}
use Rattle.interval_check.specs.Intervals.{fitting}

abbrev pub Answer : Type 0
Answer = Result Range ℕ

-- the range of an interval that fits, else a fault here
abbrev pub ranged : Option Interval → Kind → Answer
ranged None k = Err 0
ranged (Some i) k = Ok (record { interval = i; kind = k })

abbrev pub truth : Range
truth = record { interval = single (pos 0); kind = Truth }

abbrev pub scale_in : Range → ℕ
scale_in r = scale_of_kind r.kind

abbrev pub negated : Range → Answer
negated r = ranged (fitting (lifted neg_ℤ (swapped r.interval))) (Number (scale_in r))

abbrev pub widened : Kind → Range → Answer
widened k r = ranged (fitting (lifted (λ m. raised m (scale_of_kind k - scale_in r)) r.interval)) k

abbrev pub rounded : Mode → ℕ → Range → Answer
rounded mode s r = ranged (fitting (lifted (λ m. at_scale mode m (scale_in r) s) r.interval)) (Number s)

-- two intervals at one scale
pub record Shared : Type 0 where
  pub left : Interval
  pub right : Interval

abbrev pub both_fit : Option Interval → Option Interval → Result Shared ℕ
both_fit (Some i) (Some j) = Ok (record { left = i; right = j })
both_fit _ _ = Err 0

-- the intervals of two ranges at the greater of their scales
abbrev pub aligned_both : Range → Range → Result Shared ℕ
aligned_both r t =
    both_fit (fitting (aligned (scale_in r) (scale_in t) r.interval)) (fitting (aligned (scale_in t) (scale_in r) t.interval))

abbrev pub combined : NumOp → Range → Range → Answer
combined Times r t =
    ranged (fitting (on_intervals Times r.interval t.interval)) (Number (scale_of_op Times (scale_in r) (scale_in t)))
combined op r t =
    then_do (aligned_both r t) (λ p. ranged (fitting (on_intervals op p.left p.right)) (Number (scale_of_op op (scale_in r) (scale_in t))))

abbrev pub compared : Range → Range → Answer
compared r t = then_do (aligned_both r t) (λ _. Ok truth)

abbrev pub either : Range → Range → Answer
either r t = then_do (aligned_both r t) (λ p. ranged (fitting (hull p.left p.right)) (kind_of_either r.kind t.kind))

abbrev pub quotient : Mode → ℕ → Range → Range → Answer
quotient mode s r t =
    if fit_divided (scale_in r) r.interval (scale_in t) t.interval s
    then ranged (fitting (corners (λ x y. divided mode x (scale_in r) y (scale_in t) s) r.interval t.interval)) (Number s)
    else Err 0

abbrev pub observed : Option Label → Answer
observed o = ranged (fitting (interval_of_label o)) (kind_or (kind_of_label o))

-- a name; one without a binder, which no closed term has, is a truth value
abbrev pub range_or_truth : Option Range → Range
range_or_truth None = truth
range_or_truth (Some r) = r

abbrev pub named : Range → Answer
named r = ranged (fitting r.interval) r.kind

-- the ranges of two parts
pub record Operands : Type 0 where
  pub left : Range
  pub right : Range

-- of the first, and then of the second, where the first has n nodes
abbrev pub operands : ℕ → Answer → Answer → Result Operands ℕ
operands n a b =
    then_do (moved 1 a) (λ r. then_do (moved (1 + n) b) (λ t. Ok (record { left = r; right = t })))

-- the step of each day, one after another
abbrev pub days_tried : ℕ → (Range → Answer) → Range → Answer
days_tried zero step r = Ok r
days_tried (suc n) step r = then_do (days_tried n step r) step

-- a day of an accumulator: the body, with the range so far for the name, at the scale of the start
abbrev pub day_tried : (List Range → Answer) → List Range → Range → Answer
day_tried body g r = then_do (moved 1 (body (r ∷ g))) (widened r.kind)

abbrev pub range_tried : Declarations → Expression → List Range → Answer
range_tried d (Lit m s) g = ranged (fitting (single m)) (Number s)
range_tried d (Yes b) g = Ok truth
range_tried d (Var back) g = named (range_or_truth (slice_get g back))
range_tried d (Obs l t) g = observed (label_of d l)
range_tried d (Neg e) g = then_do (moved 1 (range_tried d e g)) negated
range_tried d (Num op a b) g = then_do (operands (nodes a) (range_tried d a g) (range_tried d b g)) (λ p. combined op p.left p.right)
range_tried d (Cmp op a b) g = then_do (operands (nodes a) (range_tried d a g) (range_tried d b g)) (λ p. compared p.left p.right)
range_tried d (Not e) g = then_do (moved 1 (range_tried d e g)) (λ _. Ok truth)
range_tried d (Logic op a b) g = then_do (operands (nodes a) (range_tried d a g) (range_tried d b g)) (λ _. Ok truth)
range_tried d (Cond t a b) g =
    then_do (moved 1 (range_tried d t g))
    (λ _. then_do (moved (nodes t) (operands (nodes a) (range_tried d a g) (range_tried d b g)))
    (λ p. either p.left p.right))
range_tried d (Widen s e) g = then_do (moved 1 (range_tried d e g)) (widened (Number s))
range_tried d (Round mode s e) g = then_do (moved 1 (range_tried d e g)) (rounded mode s)
range_tried d (Div mode s a b) g =
    then_do (operands (nodes a) (range_tried d a g) (range_tried d b g)) (λ p. quotient mode s p.left p.right)
range_tried d (Acc body n first) g =
    then_do (moved (1 + nodes body) (range_tried d first g)) (λ r. days_tried n (day_tried (λ h. range_tried d body h) g) r)

-- The kind that the trial answers, and the scales that the rule on scales gives it.

abbrev pub kind_found : Declarations → Expression → List Kind → Kind
kind_found d (Lit m s) ks = Number s
kind_found d (Yes b) ks = Truth
kind_found d (Var back) ks = kind_or (slice_get ks back)
kind_found d (Obs l t) ks = kind_or (kind_of_label (label_of d l))
kind_found d (Neg e) ks = Number (scale_of_kind (kind_found d e ks))
kind_found d (Num op a b) ks =
    Number (scale_of_op op (scale_of_kind (kind_found d a ks)) (scale_of_kind (kind_found d b ks)))
kind_found d (Cmp op a b) ks = Truth
kind_found d (Not e) ks = Truth
kind_found d (Logic op a b) ks = Truth
kind_found d (Cond t a b) ks = kind_of_either (kind_found d a ks) (kind_found d b ks)
kind_found d (Widen s e) ks = Number s
kind_found d (Round mode s e) ks = Number s
kind_found d (Div mode s a b) ks = Number s
kind_found d (Acc body n first) ks = kind_found d first ks

-- every scale is at most 27
abbrev pub AreScaled : Declarations → Expression → List Kind → Type 0
AreScaled d (Lit m s) ks = s ≤ 27
AreScaled d (Yes b) ks = Unit {0}
AreScaled d (Var back) ks = scale_of_kind (kind_or (slice_get ks back)) ≤ 27
AreScaled d (Obs l t) ks = Unit {0}
AreScaled d (Neg e) ks = AreScaled d e ks
AreScaled d (Num op a b) ks =
    AreScaled d a ks × AreScaled d b ks × (scale_of_op op (scale_of_kind (kind_found d a ks)) (scale_of_kind (kind_found d b ks)) ≤ 27)
AreScaled d (Cmp op a b) ks = AreScaled d a ks × AreScaled d b ks
AreScaled d (Not e) ks = AreScaled d e ks
AreScaled d (Logic op a b) ks = AreScaled d a ks × AreScaled d b ks
AreScaled d (Cond t a b) ks = AreScaled d t ks × AreScaled d a ks × AreScaled d b ks
AreScaled d (Widen s e) ks = (s ≤ 27) × AreScaled d e ks
AreScaled d (Round mode s e) ks = (s ≤ 27) × AreScaled d e ks
AreScaled d (Div mode s a b) ks = (s ≤ 27) × AreScaled d a ks × AreScaled d b ks
AreScaled d (Acc body n first) ks = AreScaled d body (kind_found d first ks ∷ ks) × AreScaled d first ks
