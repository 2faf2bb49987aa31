-- What the rules say of an expression itself: it has a kind, its scale is at most 27, and its interval fits.
use Rattle.std.proofs.Common.{◌≡◌, ℕ, zero, suc, ◌<◌, ◌≤◌, ◌&&◌, nat_le, IsTrue, is_some, List, ◌∷◌, Option, Some, None, refl, arith}
use Rattle.std.proofs.lemmas.Bool.{and_parts, leb-true}
use Rattle.term_model.specs.Declarations.{Declarations}
use Rattle.term_model.specs.declared.values.Kind.{Kind}
use Rattle.term_model.specs.declared.values.Kind.TheVariants.{Truth as TruthKind, Number}
use Rattle.term_model.specs.Terms.{Expression, Lit, Yes, Var, Obs, Neg, Num, Cmp, Not, Logic, Cond, Widen, Round, Div, Acc}
use Rattle.term_model.specs.Kinds.{scale_of, scale_of_kind, scale_or_zero, on_number, on_numbers}
use Rattle.term_model.specs.Values.{kind_or}
use Rattle.term_model.specs.Sites.{Part, OfExpression, Once}
use Rattle.term_model.specs.Scales.{greatest_scale}
use Rattle.term_model.specs.Bounds.{Range, range_kinds, interval_of, operands_fit, fits}
use Rattle.interval_check.specs.Nodes.{EachNode, IsScaled, IsBounded, IsScaledPart, has_scaled_parts, range_after}
use Rattle.interval_check.specs.Safety.{ScalesFit}

pub at_root : (P : List Range → Part → Type 0) (d : Declarations) (e : Expression) (g : List Range) → EachNode P Once d e g → P g (OfExpression e)
at_root P d (Lit m s) g h = h
at_root P d (Yes b) g h = h
at_root P d (Var back) g h = h
at_root P d (Obs l t) g h = h
at_root P d (Neg e) g h = h.1
at_root P d (Num op a b) g h = h.2
at_root P d (Cmp op a b) g h = h.2
at_root P d (Not e) g h = h.1
at_root P d (Logic op a b) g h = h.2
at_root P d (Cond t a b) g h = h.3
at_root P d (Widen s e) g h = h.1
at_root P d (Round mode s e) g h = h.1
at_root P d (Div mode s a b) g h = h.2
at_root P d (Acc body n first) g h = h.1.1

pub scale_fits : (d : Declarations) (e : Expression) (g : List Range) → IsScaled d e g → scale_of d e (range_kinds g) ≤ greatest_scale
scale_fits d e g h =
    let tests = and_parts (nat_le (scale_of d e (range_kinds g)) greatest_scale) (has_scaled_parts d (range_kinds g) e) (at_root (IsScaledPart d) d e g h) in
    leb-true _ _ tests.0

pub scaled_parts : (d : Declarations) (e : Expression) (g : List Range) → IsScaled d e g → IsTrue (has_scaled_parts d (range_kinds g) e)
scaled_parts d e g h =
    (and_parts (nat_le (scale_of d e (range_kinds g)) greatest_scale) (has_scaled_parts d (range_kinds g) e) (at_root (IsScaledPart d) d e g h)).1

-- both tests of a node
pub bound_tests : (d : Declarations) (e : Expression) (g : List Range) → IsTrue (operands_fit d g e && fits (interval_of d e g)) → IsTrue (operands_fit d g e) × IsTrue (fits (interval_of d e g))
bound_tests d e g h = and_parts (operands_fit d g e) (fits (interval_of d e g)) h

pub interval_fits : (d : Declarations) (e : Expression) (g : List Range) → IsBounded d e g → IsTrue (fits (interval_of d e g))
interval_fits d (Lit m s) g h = (bound_tests d (Lit m s) g h).1
interval_fits d (Yes b) g h = (bound_tests d (Yes b) g h).1
interval_fits d (Var back) g h = (bound_tests d (Var back) g h).1
interval_fits d (Obs l t) g h = (bound_tests d (Obs l t) g h).1
interval_fits d (Neg e) g h = (bound_tests d (Neg e) g h.1).1
interval_fits d (Num op a b) g h = (bound_tests d (Num op a b) g h.2).1
interval_fits d (Cmp op a b) g h = (bound_tests d (Cmp op a b) g h.2).1
interval_fits d (Not e) g h = (bound_tests d (Not e) g h.1).1
interval_fits d (Logic op a b) g h = (bound_tests d (Logic op a b) g h.2).1
interval_fits d (Cond t a b) g h = (bound_tests d (Cond t a b) g h.3).1
interval_fits d (Widen s e) g h = (bound_tests d (Widen s e) g h.1).1
interval_fits d (Round mode s e) g h = (bound_tests d (Round mode s e) g h.1).1
interval_fits d (Div mode s a b) g h = (bound_tests d (Div mode s a b) g h.2).1
interval_fits d (Acc body zero first) g h = interval_fits d first g h.0
interval_fits d (Acc body (suc n) first) g h = (bound_tests d (Acc body (suc n) first) g (h.1 n (omega arith)).1).1

-- the interval of an accumulator after some of its days
pub round_fits : (d : Declarations) (body : Expression) (n i : ℕ) (first : Expression) (g : List Range) → IsBounded d (Acc body n first) g → i < n → IsTrue (fits (interval_of d (Acc body (suc i) first) g))
round_fits d body n i first g h l = (bound_tests d (Acc body (suc i) first) g (h.1 i l).1).1

-- kinds

pub some_kind : (o : Option Kind) → IsTrue (is_some o) → o ≡ Some (kind_or o)
some_kind None h = absurd (cc)
some_kind (Some k) h = refl

pub scale_of_some : (o : Option Kind) → scale_of_kind (kind_or o) ≡ scale_or_zero o
scale_of_some None = refl
scale_of_some (Some k) = refl

pub number_scale : (o : Option Kind) (s : ℕ) → IsTrue (is_some (on_number (λ _. Some (Number s)) o)) → scale_or_zero (on_number (λ _. Some (Number s)) o) ≡ s
number_scale None s h = absurd (cc)
number_scale (Some TruthKind) s h = absurd (cc)
number_scale (Some (Number t)) s h = refl

pub numbers_scale : (o u : Option Kind) (s : ℕ) → IsTrue (is_some (on_numbers (λ _ _. Some (Number s)) o u)) → scale_or_zero (on_numbers (λ _ _. Some (Number s)) o u) ≡ s
numbers_scale None u s h = absurd (cc)
numbers_scale (Some TruthKind) u s h = absurd (cc)
numbers_scale (Some (Number t)) None s h = absurd (cc)
numbers_scale (Some (Number t)) (Some TruthKind) s h = absurd (cc)
numbers_scale (Some (Number t)) (Some (Number v)) s h = refl

-- every scale of an expression
pub scales_fit : (d : Declarations) (e : Expression) (g : List Range) → IsScaled d e g → ScalesFit d e (range_kinds g)
scales_fit d (Lit m s) g h = scale_fits d (Lit m s) g h
scales_fit d (Yes b) g h = tt
scales_fit d (Var back) g h = scale_fits d (Var back) g h
scales_fit d (Obs l t) g h = scale_fits d (Obs l t) g h
scales_fit d (Neg e) g h = scales_fit d e g h.0
scales_fit d (Num op a b) g h = (scales_fit d a g h.0, scales_fit d b g h.1, scale_fits d (Num op a b) g h)
scales_fit d (Cmp op a b) g h = (scales_fit d a g h.0, scales_fit d b g h.1)
scales_fit d (Not e) g h = scales_fit d e g h.0
scales_fit d (Logic op a b) g h = (scales_fit d a g h.0, scales_fit d b g h.1)
scales_fit d (Cond t a b) g h = (scales_fit d t g h.0, scales_fit d a g h.1, scales_fit d b g h.2)
scales_fit d (Widen s e) g h = (scales_fit d e g h.0, leb-true _ _ (scaled_parts d (Widen s e) g h), scale_fits d (Widen s e) g h)
scales_fit d (Round mode s e) g h = (scales_fit d e g h.0, scale_fits d (Round mode s e) g h)
scales_fit d (Div mode s a b) g h = (scales_fit d a g h.0, scales_fit d b g h.1, scale_fits d (Div mode s a b) g h)
scales_fit d (Acc body n first) g h =
    (scales_fit d first g h.0, scales_fit d body (range_after d body 0 first g ∷ g) h.1.0, leb-true _ _ (scaled_parts d (Acc body n first) g h))
