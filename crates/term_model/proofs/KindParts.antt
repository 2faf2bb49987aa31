-- What the kind of an operator tells of those of its operands.
use Rattle.std.proofs.Common.{◌≡◌, ℕ, max, Option, Some, None, refl, ap, subst}
use Rattle.term_model.specs.declared.values.Kind.{Kind}
use Rattle.term_model.specs.declared.values.Kind.TheVariants.{Truth, Number}
use Rattle.term_model.specs.Kinds.{scale_of_kind, on_number, on_numbers, on_truth, joined, of_acc}
use Rattle.term_model.specs.Branches.{either}

pub record OneNumber (f : ℕ → Kind) (o : Option Kind) (w : Kind) : Type 0 where
  pub scale : ℕ
  pub operand : o ≡ Some (Number scale)
  pub whole : f scale ≡ w

pub one_number : (f : ℕ → Kind) (o : Option Kind) (w : Kind) → on_number (λ s. Some (f s)) o ≡ Some w → OneNumber f o w
one_number f None w e = absurd (cc)
one_number f (Some Truth) w e = absurd (cc)
one_number f (Some (Number s)) w e = record { scale = s; operand = refl; whole = cc }

pub record TwoNumbers (f : ℕ → ℕ → Kind) (o u : Option Kind) (w : Kind) : Type 0 where
  pub left_scale : ℕ
  pub right_scale : ℕ
  pub left : o ≡ Some (Number left_scale)
  pub right : u ≡ Some (Number right_scale)
  pub whole : f left_scale right_scale ≡ w

pub two_numbers : (f : ℕ → ℕ → Kind) (o u : Option Kind) (w : Kind) → on_numbers (λ s t. Some (f s t)) o u ≡ Some w → TwoNumbers f o u w
two_numbers f None u w e = absurd (cc)
two_numbers f (Some Truth) u w e = absurd (cc)
two_numbers f (Some (Number s)) None w e = absurd (cc)
two_numbers f (Some (Number s)) (Some Truth) w e = absurd (cc)
two_numbers f (Some (Number s)) (Some (Number t)) w e =
    record { left_scale = s; right_scale = t; left = refl; right = refl; whole = cc }

pub record IsTruthThen (o u : Option Kind) (w : Kind) : Type 0 where
  pub first : o ≡ Some Truth
  pub rest : u ≡ Some w

pub truth_then : (o u : Option Kind) (w : Kind) → on_truth o u ≡ Some w → IsTruthThen o u w
truth_then None u w e = absurd (cc)
truth_then (Some Truth) u w e = record { first = refl; rest = e }
truth_then (Some (Number s)) u w e = absurd (cc)

pub record TwoBranches (o u : Option Kind) (w : Kind) : Type 0 where
  pub yes_kind : Kind
  pub no_kind : Kind
  pub yes : o ≡ Some yes_kind
  pub no : u ≡ Some no_kind
  pub whole : either yes_kind no_kind ≡ w

pub branches : (o u : Option Kind) (w : Kind) → joined o u ≡ Some w → TwoBranches o u w
branches None u w e = absurd (cc)
branches (Some Truth) None w e = absurd (cc)
branches (Some Truth) (Some Truth) w e =
    record { yes_kind = Truth; no_kind = Truth; yes = refl; no = refl; whole = cc }
branches (Some Truth) (Some (Number t)) w e = absurd (cc)
branches (Some (Number s)) None w e = absurd (cc)
branches (Some (Number s)) (Some Truth) w e = absurd (cc)
branches (Some (Number s)) (Some (Number t)) w e =
    record { yes_kind = Number s; no_kind = Number t; yes = refl; no = refl; whole = cc }

pub scale_either : (a b : Kind) → scale_of_kind (either a b) ≡ max (scale_of_kind a) (scale_of_kind b)
scale_either Truth Truth = refl
scale_either Truth (Number b) = refl
scale_either (Number a) Truth = refl
scale_either (Number a) (Number b) = refl

-- an accumulator, which has the kind of its start
pub record OverStart (o : Option Kind) (f : Kind → Option Kind) (w : Kind) : Type 0 where
  pub body_kind : Kind
  pub first : o ≡ Some w
  pub body : f w ≡ Some body_kind

start_at : (f : Kind → Option Kind) (x w y : Kind) → x ≡ w → f x ≡ Some y → OverStart (Some x) f w
start_at f x w y e h =
    record { body_kind = y; first = ap (λ (k : Kind). Some k) e; body = subst (λ (k : Kind). f k ≡ Some y) e h }

pub days : (o : Option Kind) (f : Kind → Option Kind) (w : Kind) → of_acc o f ≡ Some w → OverStart o f w
days None f w e = absurd (cc)
days (Some Truth) f w e =
    let p = truth_then (f Truth) (Some Truth) w e in
    let same : Truth ≡ w = let q : Some Truth ≡ Some w = p.rest in cc in
    start_at f Truth w Truth same p.first
days (Some (Number s)) f w e =
    let p = one_number (λ _. Number s) (f (Number s)) w e in
    start_at f (Number s) w (Number p.scale) p.whole p.operand
