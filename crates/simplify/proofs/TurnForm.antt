-- A turn keeps the form of an expression.
use Rattle.std.proofs.Common.{◌≡◌, ℕ, IsTrue, nat_le, Option, Some, List, ◌∷◌, refl, ap, ap₂, sym, subst, ◌∙◌}
use Rattle.term_model.specs.Declarations.{Declarations}
use Rattle.term_model.specs.declared.values.Kind.{Kind}
use Rattle.term_model.specs.declared.values.Kind.TheVariants.{Truth as TruthKind, Number}
use Rattle.term_model.specs.Terms.{Expression, Lit, Yes, Var, Obs, Neg, Num, Cmp, Not, Logic, Cond, Widen, Round, Div, Acc}
use Rattle.term_model.specs.Kinds.{kind_of, scale_of, scale_or_zero, scale_of_op, on_number, on_numbers, on_truth, joined}
use Rattle.term_model.specs.Values.{kind_or}
use Rattle.term_model.specs.Bounds.{Range, range_kinds}
use Rattle.interval_check.specs.Nodes.{IsSorted, IsScaled, is_sorted_part, is_scaled_part, range_after}
use Rattle.rewriting.specs.Replacing.{KeepsForm}
use Rattle.interval_check.proofs.KindsEnough.{kinds_are_enough}
use Rattle.interval_check.proofs.NodeTests.{scaled_parts}
use Rattle.rewriting.proofs.ReplacingFacts.{acc_kind}
use Rattle.simplify.specs.Turning.{rule, turned}
use Rattle.simplify.specs.LawsTurnsStand.{TurnsKeepForm}
use Rattle.simplify.proofs.FormFacts.{sorted_root, scaled_root, rule_form}

itself : (d : Declarations) (e : Expression) (g : List Range) → IsSorted d e g → IsScaled d e g → KeepsForm d e e g
itself d e g s c = record { sorts = s; scales = c; same_kind = refl }

ruled : (d : Declarations) (x e : Expression) (g : List Range) → KeepsForm d x e g → KeepsForm d (rule d (range_kinds g) x) e g
ruled d x e g p =
    let q = rule_form d x g p.sorts p.scales in
    record { sorts = q.sorts; scales = q.scales; same_kind = q.same_kind ∙ p.same_kind }

pub turn_form : TurnsKeepForm
turn_form d (Lit m s) g h c = itself d (Lit m s) g h c
turn_form d (Yes b) g h c = itself d (Yes b) g h c
turn_form d (Var back) g h c = itself d (Var back) g h c
turn_form d (Obs l t) g h c = itself d (Obs l t) g h c
turn_form d (Neg e) g h c =
    let p = turn_form d e g h.0 c.0 in
    let x = Neg (turned d (range_kinds g) e) in
    let same : kind_of d x (range_kinds g) ≡ kind_of d (Neg e) (range_kinds g) = ap (on_number (λ s. Some (Number s))) p.same_kind in
    ruled d x (Neg e) g (record { sorts = (p.sorts, sorted_root d x (Neg e) g same h); scales = (p.scales, scaled_root d x (Neg e) g same c refl); same_kind = same })
turn_form d (Num op a b) g h c =
    let p = turn_form d a g h.0 c.0 in
    let q = turn_form d b g h.1 c.1 in
    let x = Num op (turned d (range_kinds g) a) (turned d (range_kinds g) b) in
    let same : kind_of d x (range_kinds g) ≡ kind_of d (Num op a b) (range_kinds g) = ap₂ (on_numbers (λ s t. Some (Number (scale_of_op op s t)))) p.same_kind q.same_kind in
    ruled d x (Num op a b) g (record { sorts = (p.sorts, q.sorts, sorted_root d x (Num op a b) g same h); scales = (p.scales, q.scales, scaled_root d x (Num op a b) g same c refl); same_kind = same })
turn_form d (Cmp op a b) g h c =
    let p = turn_form d a g h.0 c.0 in
    let q = turn_form d b g h.1 c.1 in
    let x = Cmp op (turned d (range_kinds g) a) (turned d (range_kinds g) b) in
    let same : kind_of d x (range_kinds g) ≡ kind_of d (Cmp op a b) (range_kinds g) = ap₂ (on_numbers (λ s t. Some TruthKind)) p.same_kind q.same_kind in
    ruled d x (Cmp op a b) g (record { sorts = (p.sorts, q.sorts, sorted_root d x (Cmp op a b) g same h); scales = (p.scales, q.scales, scaled_root d x (Cmp op a b) g same c refl); same_kind = same })
turn_form d (Not e) g h c =
    let p = turn_form d e g h.0 c.0 in
    let x = Not (turned d (range_kinds g) e) in
    let same : kind_of d x (range_kinds g) ≡ kind_of d (Not e) (range_kinds g) = ap (λ (o : Option Kind). on_truth o (Some TruthKind)) p.same_kind in
    ruled d x (Not e) g (record { sorts = (p.sorts, sorted_root d x (Not e) g same h); scales = (p.scales, scaled_root d x (Not e) g same c refl); same_kind = same })
turn_form d (Logic op a b) g h c =
    let p = turn_form d a g h.0 c.0 in
    let q = turn_form d b g h.1 c.1 in
    let x = Logic op (turned d (range_kinds g) a) (turned d (range_kinds g) b) in
    let same : kind_of d x (range_kinds g) ≡ kind_of d (Logic op a b) (range_kinds g) = ap₂ (λ (o u : Option Kind). on_truth o (on_truth u (Some TruthKind))) p.same_kind q.same_kind in
    ruled d x (Logic op a b) g (record { sorts = (p.sorts, q.sorts, sorted_root d x (Logic op a b) g same h); scales = (p.scales, q.scales, scaled_root d x (Logic op a b) g same c refl); same_kind = same })
turn_form d (Cond t a b) g h c =
    let o = turn_form d t g h.0 c.0 in
    let p = turn_form d a g h.1 c.1 in
    let q = turn_form d b g h.2 c.2 in
    let x = Cond (turned d (range_kinds g) t) (turned d (range_kinds g) a) (turned d (range_kinds g) b) in
    let same : kind_of d x (range_kinds g) ≡ kind_of d (Cond t a b) (range_kinds g) = ap₂ on_truth o.same_kind (ap₂ joined p.same_kind q.same_kind) in
    ruled d x (Cond t a b) g (record { sorts = (o.sorts, p.sorts, q.sorts, sorted_root d x (Cond t a b) g same h); scales = (o.scales, p.scales, q.scales, scaled_root d x (Cond t a b) g same c refl); same_kind = same })
turn_form d (Widen s e) g h c =
    let p = turn_form d e g h.0 c.0 in
    let x = Widen s (turned d (range_kinds g) e) in
    let same : kind_of d x (range_kinds g) ≡ kind_of d (Widen s e) (range_kinds g) = ap (on_number (λ _. Some (Number s))) p.same_kind in
    let parts = subst (λ (o : Option Kind). IsTrue (nat_le (scale_or_zero o) s)) (sym p.same_kind) (scaled_parts d (Widen s e) g c) in
    ruled d x (Widen s e) g (record { sorts = (p.sorts, sorted_root d x (Widen s e) g same h); scales = (p.scales, scaled_root d x (Widen s e) g same c parts); same_kind = same })
turn_form d (Round mode s e) g h c =
    let p = turn_form d e g h.0 c.0 in
    let x = Round mode s (turned d (range_kinds g) e) in
    let same : kind_of d x (range_kinds g) ≡ kind_of d (Round mode s e) (range_kinds g) = ap (on_number (λ _. Some (Number s))) p.same_kind in
    ruled d x (Round mode s e) g (record { sorts = (p.sorts, sorted_root d x (Round mode s e) g same h); scales = (p.scales, scaled_root d x (Round mode s e) g same c refl); same_kind = same })
turn_form d (Div mode s a b) g h c =
    let p = turn_form d a g h.0 c.0 in
    let q = turn_form d b g h.1 c.1 in
    let x = Div mode s (turned d (range_kinds g) a) (turned d (range_kinds g) b) in
    let same : kind_of d x (range_kinds g) ≡ kind_of d (Div mode s a b) (range_kinds g) = ap₂ (on_numbers (λ _ _. Some (Number s))) p.same_kind q.same_kind in
    ruled d x (Div mode s a b) g (record { sorts = (p.sorts, q.sorts, sorted_root d x (Div mode s a b) g same h); scales = (p.scales, q.scales, scaled_root d x (Div mode s a b) g same c refl); same_kind = same })
turn_form d (Acc body n first) g h c =
    let ks = range_kinds g in
    let r = turn_form d first g h.0 c.0 in
    let there = range_after d body 0 first g ∷ g in
    let form = turn_form d body there h.1.0 c.1.0 in
    let first' = turned d ks first in
    let body' = turned d (range_kinds there) body in
    let x = Acc body' n first' in
    let here = range_after d body' 0 first' g ∷ g in
    let kinds : range_kinds there ≡ range_kinds here = ap (λ (o : Option Kind). kind_or o ∷ ks) (sym r.same_kind) in
    let same : kind_of d x ks ≡ kind_of d (Acc body n first) ks = acc_kind (kind_of d first ks) (kind_of d first' ks) (λ k. kind_of d body (k ∷ ks)) (λ k. kind_of d body' (k ∷ ks)) r.same_kind form.same_kind in
    let body_kind : kind_of d body' (range_kinds here) ≡ kind_of d body (range_kinds there) = ap (λ (js : List Kind). kind_of d body' js) (sym kinds) ∙ form.same_kind in
    let low = ap scale_or_zero body_kind in
    let high = ap scale_or_zero r.same_kind in
    let known : IsTrue (nat_le (scale_of d body (range_kinds there)) (scale_of d first ks)) = scaled_parts d (Acc body n first) g c in
    let parts : IsTrue (nat_le (scale_of d body' (range_kinds here)) (scale_of d first' ks)) = subst (λ (s : ℕ). IsTrue (nat_le s (scale_of d first' ks))) (sym low) (subst (λ (s : ℕ). IsTrue (nat_le (scale_of d body (range_kinds there)) s)) (sym high) known) in
    ruled d x (Acc body n first) g (record {
      sorts = (r.sorts, (kinds_are_enough (λ js part. IsTrue (is_sorted_part d js part)) d body' there here kinds form.sorts, sorted_root d x (Acc body n first) g same h));
      scales = (r.scales, (kinds_are_enough (λ js part. IsTrue (is_scaled_part d js part)) d body' there here kinds form.scales, scaled_root d x (Acc body n first) g same c parts));
      same_kind = same;
    })
