-- A value with its kind, and what each operator makes of those of its parts, with what it asks so that the numbers fit
-- 128 bits.
use Rattle.std.specs.Prelude.{ℕ, ℤ, neg_ℤ, Bool, ◌≤◌}
use Rattle.decimal.specs.Rounding.{at_scale, divided}
use Rattle.decimal.specs.declared.rounding.Mode.{Mode}
use Rattle.term_model.specs.declared.terms.NumOp.{NumOp}
use Rattle.term_model.specs.declared.terms.CmpOp.{CmpOp}
use Rattle.term_model.specs.declared.values.Kind.{Kind}
use Rattle.term_model.specs.declared.values.Kind.TheVariants.{Truth as TruthKind, Number}
use Rattle.term_model.specs.declared.values.Value.TheVariants.{Num as Amount, Truth}
use Rattle.term_model.specs.Kinds.{scale_of_kind, scale_of_op}
use Rattle.term_model.specs.Values.{num, truth, of_num, of_cmp, widened}
use Rattle.term_model.specs.Scales.{greatest_scale}
use Rattle.interval_check.specs.Safety.{IsSmall, AlignSafely, OperateSafely, WidensSafely, RoundsSafely, DivideSafely}
use Rattle.expr_eval.specs.declared.operations.Typed.{Typed}

abbrev pub number : ℕ → ℤ → Typed
number s m = record { kind = Number s; value = Amount m }

abbrev pub verdict : Bool → Typed
verdict b = record { kind = TruthKind; value = Truth b }

abbrev pub number_in : Typed → ℤ
number_in v = num v.value

abbrev pub truth_in : Typed → Bool
truth_in v = truth v.value

abbrev pub scale_in : Typed → ℕ
scale_in v = scale_of_kind v.kind

-- a value at a kind of no fewer decimals
abbrev pub at_kind : Kind → Typed → Typed
at_kind k v = record { kind = k; value = widened (scale_in v) (scale_of_kind k) v.value }

abbrev pub negated : Typed → Typed
negated v = record { kind = v.kind; value = Amount (neg_ℤ (number_in v)) }

abbrev pub combined : NumOp → Typed → Typed → Typed
combined op x y = number (scale_of_op op (scale_in x) (scale_in y)) (of_num op (scale_in x) (number_in x) (scale_in y) (number_in y))

abbrev pub compared : CmpOp → Typed → Typed → Typed
compared op x y = verdict (of_cmp op (scale_in x) (number_in x) (scale_in y) (number_in y))

abbrev pub rounded : Mode → ℕ → Typed → Typed
rounded mode s v = number s (at_scale mode (number_in v) (scale_in v) s)

abbrev pub quotient : Mode → ℕ → Typed → Typed → Typed
quotient mode s x y = number s (divided mode (number_in x) (scale_in x) (number_in y) (scale_in y) s)

-- what each asks

abbrev pub FitsKind : Kind → Typed → Type 0
FitsKind k v = WidensSafely (scale_in v) (scale_of_kind k) (number_in v)

abbrev pub Negates : Typed → Type 0
Negates v = IsSmall (number_in v)

pub record Combines (op : NumOp) (x y : Typed) : Type 0 where
  pub left : scale_in x ≤ greatest_scale
  pub right : scale_in y ≤ greatest_scale
  pub outcome : scale_of_op op (scale_in x) (scale_in y) ≤ greatest_scale
  pub fits : OperateSafely op (scale_in x) (number_in x) (scale_in y) (number_in y)

pub record Compares (x y : Typed) : Type 0 where
  pub left : scale_in x ≤ greatest_scale
  pub right : scale_in y ≤ greatest_scale
  pub fits : AlignSafely (scale_in x) (number_in x) (scale_in y) (number_in y)

pub record RoundsTo (s : ℕ) (v : Typed) : Type 0 where
  pub scale : scale_in v ≤ greatest_scale
  pub small : IsSmall (number_in v)
  pub fits : RoundsSafely (scale_in v) s (number_in v)

pub record DividesTo (s : ℕ) (x y : Typed) : Type 0 where
  pub left : scale_in x ≤ greatest_scale
  pub right : scale_in y ≤ greatest_scale
  pub fits : DivideSafely (scale_in x) (number_in x) (scale_in y) (number_in y) s
