-- An expression with parts replaced may stand for the whole: by each form, from its parts.
use Rattle.std.proofs.Common.{◌≡◌, ℕ, ◌<◌, nat_le, IsTrue, is_some, List, ◌∷◌, Option, Some, None, refl, ap, sym, subst, ◌∙◌}
use Rattle.std.proofs.lemmas.Bool.{and_parts, and_from}
use Rattle.decimal.specs.declared.rounding.Mode.{Mode}
use Rattle.term_model.specs.Declarations.{Declarations}
use Rattle.term_model.specs.declared.terms.NumOp.{NumOp}
use Rattle.term_model.specs.declared.terms.CmpOp.{CmpOp}
use Rattle.term_model.specs.declared.terms.LogicOp.{LogicOp}
use Rattle.term_model.specs.declared.values.Kind.{Kind}
use Rattle.term_model.specs.declared.values.Kind.TheVariants.{Truth as TruthKind, Number}
use Rattle.term_model.specs.Terms.{Expression, Neg, Num, Cmp, Not, Logic, Cond, Widen, Round, Div, Acc}
use Rattle.term_model.specs.Kinds.{kind_of, scale_of, scale_or_zero, scale_of_op, on_number, on_numbers, on_truth, joined, of_acc}
use Rattle.term_model.specs.Values.{kind_or}
use Rattle.term_model.specs.Sites.{OfExpression}
use Rattle.term_model.specs.Scales.{greatest_scale}
use Rattle.term_model.specs.Bounds.{Range, range_kinds, interval_of}
use Rattle.interval_check.specs.Nodes.{IsSorted, IsScaled, IsSortedPart, IsScaledPart, is_sorted_part, is_scaled_part, has_scaled_parts, MeetsRules, range_after}
use Rattle.interval_check.specs.Within.{KeepsLimits}
use Rattle.interval_check.specs.Narrowing.{IsNarrower, AreNarrower}
use Rattle.rewriting.specs.Replacing.{Replaces, KeepsForm}
use Rattle.interval_check.proofs.KindsEnough.{kinds_are_enough}
use Rattle.interval_check.proofs.NodeTests.{at_root, scaled_parts}
use Rattle.interval_check.proofs.NarrowFacts.{narrower_trans}
use Rattle.interval_check.proofs.TightFacts.{IsTight, SameKind, RoundIsTight, tight_neg, tight_num, tight_cmp, tight_not, tight_logic, tight_cond, tight_widen, tight_round, tight_div, tight_acc}
use Rattle.interval_check.proofs.NarrowerFacts.{stays_tight}

-- the tests of a node that has the kind of another

sorted_root : (d : Declarations) (y x : Expression) (g : List Range) → SameKind d y g x g → IsSorted d x g → IsSortedPart d g (OfExpression y)
sorted_root d y x g same h = subst (λ (o : Option Kind). IsTrue (is_some o)) (sym same) (at_root (IsSortedPart d) d x g h)

scaled_root : (d : Declarations) (y x : Expression) (g : List Range) → SameKind d y g x g → IsScaled d x g → IsTrue (has_scaled_parts d (range_kinds g) y) → IsScaledPart d g (OfExpression y)
scaled_root d y x g same h parts =
    let tests = and_parts (nat_le (scale_of d x (range_kinds g)) greatest_scale) (has_scaled_parts d (range_kinds g) x) (at_root (IsScaledPart d) d x g h) in
    and_from _ _ (subst (λ (o : Option Kind). IsTrue (nat_le (scale_or_zero o) greatest_scale)) (sym same) tests.0) parts

pub tight_from : (d : Declarations) (y x : Expression) (g : List Range) → Replaces d y x g → IsTight d y g x g
tight_from d y x g h = record { bounded = h.rules.bounds; inside = h.inside }

-- kinds of two and of three parts
two_kinds : (F : Option Kind → Option Kind → Option Kind) (o u o' u' : Option Kind) → o' ≡ o → u' ≡ u → F o' u' ≡ F o u
two_kinds F o u o' u' e e' = ap (λ (x : Option Kind). F x u') e ∙ ap (F o) e'

three_kinds : (F : Option Kind → Option Kind → Option Kind → Option Kind) (t o u t' o' u' : Option Kind) → t' ≡ t → o' ≡ o → u' ≡ u → F t' o' u' ≡ F t o u
three_kinds F t o u t' o' u' e e' e'' = ap (λ (x : Option Kind). F x o' u') e ∙ two_kinds (F t) o u o' u' e' e''

pub replaces_neg : (d : Declarations) (a' a : Expression) (g : List Range) → Replaces d a' a g → MeetsRules d (Neg a) g → Replaces d (Neg a') (Neg a) g
replaces_neg d a' a g r h =
    let same : SameKind d (Neg a') g (Neg a) g = ap (on_number (λ s. Some (Number s))) r.same_kind in
    let tight = tight_neg d a' g a g (tight_from d a' a g r) h.bounds in
    record {
      rules = record { sorts = (r.rules.sorts, sorted_root d (Neg a') (Neg a) g same h.sorts); scales = (r.rules.scales, scaled_root d (Neg a') (Neg a) g same h.scales refl); bounds = tight.bounded };
      same_kind = same;
      inside = tight.inside;
    }

pub replaces_num : (d : Declarations) (op : NumOp) (a' b' a b : Expression) (g : List Range) → Replaces d a' a g → Replaces d b' b g → MeetsRules d (Num op a b) g → Replaces d (Num op a' b') (Num op a b) g
replaces_num d op a' b' a b g r q h =
    let same : SameKind d (Num op a' b') g (Num op a b) g = two_kinds (on_numbers (λ s t. Some (Number (scale_of_op op s t)))) _ _ _ _ r.same_kind q.same_kind in
    let tight = tight_num d op a' b' g a b g r.same_kind q.same_kind (tight_from d a' a g r) (tight_from d b' b g q) h.bounds in
    record {
      rules = record { sorts = (r.rules.sorts, q.rules.sorts, sorted_root d (Num op a' b') (Num op a b) g same h.sorts); scales = (r.rules.scales, q.rules.scales, scaled_root d (Num op a' b') (Num op a b) g same h.scales refl); bounds = tight.bounded };
      same_kind = same;
      inside = tight.inside;
    }

pub replaces_cmp : (d : Declarations) (op : CmpOp) (a' b' a b : Expression) (g : List Range) → Replaces d a' a g → Replaces d b' b g → MeetsRules d (Cmp op a b) g → Replaces d (Cmp op a' b') (Cmp op a b) g
replaces_cmp d op a' b' a b g r q h =
    let same : SameKind d (Cmp op a' b') g (Cmp op a b) g = two_kinds (on_numbers (λ s t. Some TruthKind)) _ _ _ _ r.same_kind q.same_kind in
    let tight = tight_cmp d op a' b' g a b g r.same_kind q.same_kind (tight_from d a' a g r) (tight_from d b' b g q) h.bounds in
    record {
      rules = record { sorts = (r.rules.sorts, q.rules.sorts, sorted_root d (Cmp op a' b') (Cmp op a b) g same h.sorts); scales = (r.rules.scales, q.rules.scales, scaled_root d (Cmp op a' b') (Cmp op a b) g same h.scales refl); bounds = tight.bounded };
      same_kind = same;
      inside = tight.inside;
    }

pub replaces_not : (d : Declarations) (a' a : Expression) (g : List Range) → Replaces d a' a g → MeetsRules d (Not a) g → Replaces d (Not a') (Not a) g
replaces_not d a' a g r h =
    let same : SameKind d (Not a') g (Not a) g = ap (λ (o : Option Kind). on_truth o (Some TruthKind)) r.same_kind in
    let tight = tight_not d a' g a g (tight_from d a' a g r) h.bounds in
    record {
      rules = record { sorts = (r.rules.sorts, sorted_root d (Not a') (Not a) g same h.sorts); scales = (r.rules.scales, scaled_root d (Not a') (Not a) g same h.scales refl); bounds = tight.bounded };
      same_kind = same;
      inside = tight.inside;
    }

pub replaces_logic : (d : Declarations) (op : LogicOp) (a' b' a b : Expression) (g : List Range) → Replaces d a' a g → Replaces d b' b g → MeetsRules d (Logic op a b) g → Replaces d (Logic op a' b') (Logic op a b) g
replaces_logic d op a' b' a b g r q h =
    let same : SameKind d (Logic op a' b') g (Logic op a b) g = two_kinds (λ o u. on_truth o (on_truth u (Some TruthKind))) _ _ _ _ r.same_kind q.same_kind in
    let tight = tight_logic d op a' b' g a b g (tight_from d a' a g r) (tight_from d b' b g q) h.bounds in
    record {
      rules = record { sorts = (r.rules.sorts, q.rules.sorts, sorted_root d (Logic op a' b') (Logic op a b) g same h.sorts); scales = (r.rules.scales, q.rules.scales, scaled_root d (Logic op a' b') (Logic op a b) g same h.scales refl); bounds = tight.bounded };
      same_kind = same;
      inside = tight.inside;
    }

pub replaces_cond : (d : Declarations) (t' a' b' t a b : Expression) (g : List Range) → Replaces d t' t g → Replaces d a' a g → Replaces d b' b g → MeetsRules d (Cond t a b) g → Replaces d (Cond t' a' b') (Cond t a b) g
replaces_cond d t' a' b' t a b g p r q h =
    let same : SameKind d (Cond t' a' b') g (Cond t a b) g = three_kinds (λ o u v. on_truth o (joined u v)) _ _ _ _ _ _ p.same_kind r.same_kind q.same_kind in
    let tight = tight_cond d t' a' b' g t a b g r.same_kind q.same_kind (tight_from d t' t g p) (tight_from d a' a g r) (tight_from d b' b g q) h.bounds in
    record {
      rules = record { sorts = (p.rules.sorts, r.rules.sorts, q.rules.sorts, sorted_root d (Cond t' a' b') (Cond t a b) g same h.sorts); scales = (p.rules.scales, r.rules.scales, q.rules.scales, scaled_root d (Cond t' a' b') (Cond t a b) g same h.scales refl); bounds = tight.bounded };
      same_kind = same;
      inside = tight.inside;
    }

pub replaces_widen : (d : Declarations) (s : ℕ) (a' a : Expression) (g : List Range) → Replaces d a' a g → MeetsRules d (Widen s a) g → Replaces d (Widen s a') (Widen s a) g
replaces_widen d s a' a g r h =
    let same : SameKind d (Widen s a') g (Widen s a) g = ap (on_number (λ _. Some (Number s))) r.same_kind in
    let tight = tight_widen d s a' g a g r.same_kind (tight_from d a' a g r) h.bounds in
    let parts = subst (λ (o : Option Kind). IsTrue (nat_le (scale_or_zero o) s)) (sym r.same_kind) (scaled_parts d (Widen s a) g h.scales) in
    record {
      rules = record { sorts = (r.rules.sorts, sorted_root d (Widen s a') (Widen s a) g same h.sorts); scales = (r.rules.scales, scaled_root d (Widen s a') (Widen s a) g same h.scales parts); bounds = tight.bounded };
      same_kind = same;
      inside = tight.inside;
    }

pub replaces_round : (d : Declarations) (mode : Mode) (s : ℕ) (a' a : Expression) (g : List Range) → Replaces d a' a g → MeetsRules d (Round mode s a) g → Replaces d (Round mode s a') (Round mode s a) g
replaces_round d mode s a' a g r h =
    let same : SameKind d (Round mode s a') g (Round mode s a) g = ap (on_number (λ _. Some (Number s))) r.same_kind in
    let tight = tight_round d mode s a' g a g r.same_kind (tight_from d a' a g r) h.bounds in
    record {
      rules = record { sorts = (r.rules.sorts, sorted_root d (Round mode s a') (Round mode s a) g same h.sorts); scales = (r.rules.scales, scaled_root d (Round mode s a') (Round mode s a) g same h.scales refl); bounds = tight.bounded };
      same_kind = same;
      inside = tight.inside;
    }

pub replaces_div : (d : Declarations) (mode : Mode) (s : ℕ) (a' b' a b : Expression) (g : List Range) → Replaces d a' a g → Replaces d b' b g → MeetsRules d (Div mode s a b) g → Replaces d (Div mode s a' b') (Div mode s a b) g
replaces_div d mode s a' b' a b g r q h =
    let same : SameKind d (Div mode s a' b') g (Div mode s a b) g = two_kinds (on_numbers (λ _ _. Some (Number s))) _ _ _ _ r.same_kind q.same_kind in
    let tight = tight_div d mode s a' b' g a b g r.same_kind q.same_kind (tight_from d a' a g r) (tight_from d b' b g q) h.bounds in
    record {
      rules = record { sorts = (r.rules.sorts, q.rules.sorts, sorted_root d (Div mode s a' b') (Div mode s a b) g same h.sorts); scales = (r.rules.scales, q.rules.scales, scaled_root d (Div mode s a' b') (Div mode s a b) g same h.scales refl); bounds = tight.bounded };
      same_kind = same;
      inside = tight.inside;
    }

-- an accumulator

pub acc_kind : (o o' : Option Kind) (f f' : Kind → Option Kind) → o' ≡ o → f' (kind_or o) ≡ f (kind_or o) → of_acc o' f' ≡ of_acc o f
acc_kind o o' f f' e e' = ap (λ (u : Option Kind). of_acc u f') e ∙ by o e'
  where
    by : (u : Option Kind) → f' (kind_or u) ≡ f (kind_or u) → of_acc u f' ≡ of_acc u f
    by None p = refl
    by (Some TruthKind) p = ap (λ (x : Option Kind). on_truth x (Some TruthKind)) p
    by (Some (Number s)) p = ap (on_number (λ _. Some (Number s))) p

-- the names of the body in a round, where the start is replaced
round_ranges : (d : Declarations) (body' body first' first : Expression) (i : ℕ) (g : List Range) → AreNarrower g g → SameKind d first' g first g → IsNarrower (interval_of d (Acc body' i first') g) (interval_of d (Acc body i first) g) → AreNarrower (range_after d body' i first' g ∷ g) (range_after d body i first g ∷ g)
round_ranges d body' body first' first i g ordered same inside = (record { same_kind = ap kind_or same; inside = inside }, ordered)

round_replaces : (d : Declarations) → KeepsLimits d → (body' body first' first : Expression) (i : ℕ) (g : List Range) → AreNarrower g g → SameKind d first' g first g → Replaces d body' body (range_after d body i first g ∷ g) → RoundIsTight d body' first' g body first g i
round_replaces d limits body' body first' first i g ordered same r inside =
    let here = range_after d body' i first' g ∷ g in
    let there = range_after d body i first g ∷ g in
    let narrow = stays_tight d limits body' here there (round_ranges d body' body first' first i g ordered same inside) r.rules.bounds in
    record { bounded = narrow.bounded; inside = narrower_trans (interval_of d body' here) (interval_of d body' there) (interval_of d body there) narrow.inside r.inside }

pub replaces_acc : (d : Declarations) → KeepsLimits d → (body' : Expression) (n : ℕ) (first' body first : Expression) (g : List Range) → AreNarrower g g → Replaces d first' first g → KeepsForm d body' body (range_after d body 0 first g ∷ g) → ((i : ℕ) → i < n → Replaces d body' body (range_after d body i first g ∷ g)) → MeetsRules d (Acc body n first) g → Replaces d (Acc body' n first') (Acc body n first) g
replaces_acc d limits body' n first' body first g ordered r form each h =
    let ks = range_kinds g in
    let here = range_after d body' 0 first' g ∷ g in
    let there = range_after d body 0 first g ∷ g in
    let kinds : range_kinds there ≡ range_kinds here = ap (λ (o : Option Kind). kind_or o ∷ ks) (sym r.same_kind) in
    let same : SameKind d (Acc body' n first') g (Acc body n first) g = acc_kind (kind_of d first ks) (kind_of d first' ks) (λ k. kind_of d body (k ∷ ks)) (λ k. kind_of d body' (k ∷ ks)) r.same_kind form.same_kind in
    let body_kind : SameKind d body' here body there = ap (λ (js : List Kind). kind_of d body' js) (sym kinds) ∙ form.same_kind in
    let tight = tight_acc d body' n first' g body first g r.same_kind body_kind (tight_from d first' first g r) (λ i l. round_replaces d limits body' body first' first i g ordered r.same_kind (each i l)) h.bounds in
    let low = ap scale_or_zero body_kind in
    let high = ap scale_or_zero r.same_kind in
    let known : IsTrue (nat_le (scale_of d body (range_kinds there)) (scale_of d first ks)) = scaled_parts d (Acc body n first) g h.scales in
    let parts : IsTrue (nat_le (scale_of d body' (range_kinds here)) (scale_of d first' ks)) = subst (λ (s : ℕ). IsTrue (nat_le s (scale_of d first' ks))) (sym low) (subst (λ (s : ℕ). IsTrue (nat_le (scale_of d body (range_kinds there)) s)) (sym high) known) in
    record {
      rules = record {
        sorts = (r.rules.sorts, (kinds_are_enough (λ js part. IsTrue (is_sorted_part d js part)) d body' there here kinds form.sorts, sorted_root d (Acc body' n first') (Acc body n first) g same h.sorts));
        scales = (r.rules.scales, (kinds_are_enough (λ js part. IsTrue (is_scaled_part d js part)) d body' there here kinds form.scales, scaled_root d (Acc body' n first') (Acc body n first) g same h.scales parts));
        bounds = tight.bounded;
      };
      same_kind = same;
      inside = tight.inside;
    }
