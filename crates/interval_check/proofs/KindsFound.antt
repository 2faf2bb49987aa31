-- An expression that has a kind has the one that is found by structure, and so do its parts.
pub use Rattle.term_model.proofs.KindParts.{OneNumber, TwoNumbers, one_number, two_numbers, truth_then, branches, days}
use Rattle.std.proofs.Common.{◌≡◌, ℕ, List, ◌∷◌, Option, Some, ap, ◌∙◌}
use Rattle.term_model.specs.declared.values.Kind.{Kind}
use Rattle.term_model.specs.declared.values.Kind.TheVariants.{Truth, Number}
use Rattle.term_model.specs.Declarations.{Declarations}
use Rattle.term_model.specs.Terms.{Expression, Lit, Yes, Var, Obs, Neg, Num, Cmp, Not, Logic, Cond, Widen, Round, Div, Acc}
use Rattle.term_model.specs.Kinds.{kind_of, scale_of, scale_or_zero, scale_of_kind, scale_of_op, on_truth, joined}
use Rattle.term_model.specs.Values.{kind_or}
use Rattle.interval_check.specs.RangeTrials.{kind_of_either, kind_found}

number_found : (k : Kind) (s : ℕ) → k ≡ Number s → scale_of_kind k ≡ s
number_found k s e = ap (λ (j : Kind). scale_of_kind j) e

abbrev pub HasKind : Declarations → Expression → Type 0
HasKind d e = (ks : List Kind) (w : Kind) → kind_of d e ks ≡ Some w → kind_found d e ks ≡ w

pub has_kind : (d : Declarations) (e : Expression) → HasKind d e
has_kind d (Lit m s) ks w e = cc
has_kind d (Yes b) ks w e = cc
has_kind d (Var back) ks w e = ap (λ (o : Option Kind). kind_or o) e
has_kind d (Obs l t) ks w e = ap (λ (o : Option Kind). kind_or o) e
has_kind d (Neg x) ks w e =
    let p = one_number (λ s. Number s) (kind_of d x ks) w e in
    ap (λ (s : ℕ). Number s) (number_found (kind_found d x ks) p.scale (has_kind d x ks (Number p.scale) p.operand)) ∙ p.whole
has_kind d (Num op a b) ks w e =
    let p = two_numbers (λ s t. Number (scale_of_op op s t)) (kind_of d a ks) (kind_of d b ks) w e in
    ap (λ (s : ℕ). Number (scale_of_op op s (scale_of_kind (kind_found d b ks)))) (number_found (kind_found d a ks) p.left_scale (has_kind d a ks (Number p.left_scale) p.left))
    ∙ ap (λ (t : ℕ). Number (scale_of_op op p.left_scale t)) (number_found (kind_found d b ks) p.right_scale (has_kind d b ks (Number p.right_scale) p.right))
    ∙ p.whole
has_kind d (Cmp op a b) ks w e =
    let p = two_numbers (λ s t. Truth) (kind_of d a ks) (kind_of d b ks) w e in
    p.whole
has_kind d (Not x) ks w e =
    let p = truth_then (kind_of d x ks) (Some Truth) w e in
    let q : Some Truth ≡ Some w = p.rest in
    cc
has_kind d (Logic op a b) ks w e =
    let p = truth_then (kind_of d a ks) (on_truth (kind_of d b ks) (Some Truth)) w e in
    let q = truth_then (kind_of d b ks) (Some Truth) w p.rest in
    let r : Some Truth ≡ Some w = q.rest in
    cc
has_kind d (Cond t a b) ks w e =
    let p = truth_then (kind_of d t ks) (joined (kind_of d a ks) (kind_of d b ks)) w e in
    let q = branches (kind_of d a ks) (kind_of d b ks) w p.rest in
    ap (λ (k : Kind). kind_of_either k (kind_found d b ks)) (has_kind d a ks q.yes_kind q.yes)
    ∙ ap (λ (k : Kind). kind_of_either q.yes_kind k) (has_kind d b ks q.no_kind q.no)
    ∙ q.whole
has_kind d (Widen s x) ks w e = let p = one_number (λ _. Number s) (kind_of d x ks) w e in p.whole
has_kind d (Round mode s x) ks w e = let p = one_number (λ _. Number s) (kind_of d x ks) w e in p.whole
has_kind d (Div mode s a b) ks w e =
    let p = two_numbers (λ _ _. Number s) (kind_of d a ks) (kind_of d b ks) w e in
    p.whole
has_kind d (Acc body n first) ks w e =
    let p = days (kind_of d first ks) (λ k. kind_of d body (k ∷ ks)) w e in
    has_kind d first ks w p.first

-- the scale of an expression that has a kind
pub scale_is : (d : Declarations) (e : Expression) (ks : List Kind) (w : Kind) → kind_of d e ks ≡ Some w → scale_of d e ks ≡ scale_of_kind w
scale_is d e ks w h = ap (λ (o : Option Kind). scale_or_zero o) h
