-- What the rule makes of an expression has its form.
use Rattle.std.proofs.Common.{◌≡◌, ℕ, pos, ◌≤◌, max, nat_lt, nat_le, true, false, if◌then◌else◌, IsTrue, is_some, Option, Some, None, List, ◌∷◌, [], refl, ap, ap₂, sym, subst, ◌∙◌, inl, inr, arith}
use Rattle.std.proofs.lemmas.Bool.{and_parts, and_from}
use Rattle.std.proofs.lemmas.Bool.Decides.{nat_tests}
use Rattle.term_model.specs.Declarations.{Declarations}
use Rattle.term_model.specs.declared.values.Kind.{Kind}
use Rattle.term_model.specs.declared.values.Kind.TheVariants.{Truth as TruthKind, Number}
use Rattle.term_model.specs.declared.values.Value.{Value}
use Rattle.term_model.specs.Terms.{Expression, Lit, Yes, Logic, Cond, Widen, Acc}
use Rattle.term_model.specs.Kinds.{kind_of, scale_of, scale_or_zero, on_number, on_truth}
use Rattle.term_model.specs.Values.{kind_or, value_of}
use Rattle.term_model.specs.Reads.{decides}
use Rattle.term_model.specs.Redexes.{has_literal_operands}
use Rattle.term_model.specs.Sites.{OfExpression}
use Rattle.term_model.specs.Scales.{greatest_scale}
use Rattle.term_model.specs.Bounds.{Range, range_kinds}
use Rattle.interval_check.specs.Nodes.{IsSortedPart, IsScaledPart, IsSorted, IsScaled, has_scaled_parts}
use Rattle.rewriting.specs.Replacing.{KeepsForm, literal_of, branch_at}
use Rattle.interval_check.proofs.KindsFound.{truth_then, days}
use Rattle.interval_check.proofs.NodeTests.{at_root, some_kind}
use Rattle.rewriting.proofs.StandingFacts.{BesideWhole, left_beside, right_beside}
use Rattle.simplify.specs.Turning.{is_chosen, resolved, choice, rule}
use Rattle.simplify.proofs.TurnTimes.{if_cases_of}
use Rattle.rewriting.proofs.NameLists.{where_lt}

pub root_kind : (d : Declarations) (x : Expression) (g : List Range) → IsSorted d x g → kind_of d x (range_kinds g) ≡ Some (kind_or (kind_of d x (range_kinds g)))
root_kind d x g s = some_kind (kind_of d x (range_kinds g)) (at_root (IsSortedPart d) d x g s)

-- the tests of a node that has the kind of another
pub sorted_root : (d : Declarations) (y x : Expression) (g : List Range) → kind_of d y (range_kinds g) ≡ kind_of d x (range_kinds g) → IsSorted d x g → IsSortedPart d g (OfExpression y)
sorted_root d y x g same h = subst (λ (o : Option Kind). IsTrue (is_some o)) (sym same) (at_root (IsSortedPart d) d x g h)

pub scaled_root : (d : Declarations) (y x : Expression) (g : List Range) → kind_of d y (range_kinds g) ≡ kind_of d x (range_kinds g) → IsScaled d x g → IsTrue (has_scaled_parts d (range_kinds g) y) → IsScaledPart d g (OfExpression y)
scaled_root d y x g same h parts =
    let tests = and_parts (nat_le (scale_of d x (range_kinds g)) greatest_scale) (has_scaled_parts d (range_kinds g) x) (at_root (IsScaledPart d) d x g h) in
    and_from _ _ (subst (λ (o : Option Kind). IsTrue (nat_le (scale_or_zero o) greatest_scale)) (sym same) tests.0) parts

most_scale : (d : Declarations) (x : Expression) (g : List Range) → IsScaled d x g → nat_le (scale_of d x (range_kinds g)) greatest_scale ≡ true
most_scale d x g h = (and_parts (nat_le (scale_of d x (range_kinds g)) greatest_scale) (has_scaled_parts d (range_kinds g) x) (at_root (IsScaledPart d) d x g h)).0

-- a literal of the kind of the whole
literal_form : (d : Declarations) (k : Kind) (v : Value) (x : Expression) (g : List Range) → kind_of d x (range_kinds g) ≡ Some k → IsScaled d x g → KeepsForm d (literal_of k v) x g
literal_form d TruthKind v x g e c = record { sorts = refl; scales = refl; same_kind = sym e }
literal_form d (Number s) v x g e c =
    let most : nat_le s greatest_scale ≡ true = subst (λ (o : Option Kind). nat_le (scale_or_zero o) greatest_scale ≡ true) e (most_scale d x g c) in
    record { sorts = refl; scales = and_from _ _ most refl; same_kind = sym e }

least_of : (a b : ℕ) → nat_lt a b ≡ false → b ≤ a
least_of a b h = grind (arith, nat_tests)

le_is : (a b : ℕ) → a ≤ b → nat_le a b ≡ true
le_is a b h = grind (arith, nat_tests)

branch_form : (d : Declarations) (y x : Expression) (g : List Range) (s : ℕ) → BesideWhole (kind_of d y (range_kinds g)) (kind_of d x (range_kinds g)) (scale_of d y (range_kinds g)) s → scale_of d y (range_kinds g) ≤ s → IsSorted d y g → IsScaled d y g → IsScaled d x g → KeepsForm d (branch_at (scale_of d y (range_kinds g)) s y) x g
branch_form d y x g s (inl both) order sorts scales whole =
    if_cases_of (λ z. KeepsForm d z x g) (nat_lt (scale_of d y (range_kinds g)) s) (Widen s y) y
    (λ h. let less = where_lt (scale_of d y (range_kinds g)) s h in absurd (omega (arith, less, both.3)))
    (λ h. record { sorts = sorts; scales = scales; same_kind = both.0 ∙ sym both.1 })
branch_form d y x g s (inr both) order sorts scales whole =
    if_cases_of (λ z. KeepsForm d z x g) (nat_lt (scale_of d y (range_kinds g)) s) (Widen s y) y
    (λ h.
    let number : kind_of d (Widen s y) (range_kinds g) ≡ Some (Number s) = ap (on_number (λ _. Some (Number s))) both.0 in
    let same : kind_of d (Widen s y) (range_kinds g) ≡ kind_of d x (range_kinds g) = number ∙ sym both.1 in
    record {
      sorts = (sorts, subst (λ (o : Option Kind). IsTrue (is_some o)) (sym number) refl);
      scales = (scales, scaled_root d (Widen s y) x g same whole (le_is (scale_of d y (range_kinds g)) s order));
      same_kind = same;
    })
    (λ h.
    let level : scale_of d y (range_kinds g) ≡ s = omega (arith, least_of (scale_of d y (range_kinds g)) s h, order) in
    record { sorts = sorts; scales = scales; same_kind = both.0 ∙ ap (λ (n : ℕ). Some (Number n)) level ∙ sym both.1 })

logic_kind : (o : Option Kind) → IsTrue (is_some (on_truth o (Some TruthKind))) → o ≡ Some TruthKind
logic_kind None h = absurd (cc)
logic_kind (Some TruthKind) h = refl
logic_kind (Some (Number s)) h = absurd (cc)

resolved_form : (d : Declarations) (x : Expression) (g : List Range) → IsSorted d x g → IsScaled d x g → KeepsForm d (resolved d (range_kinds g) x) x g
resolved_form d (Logic op (Yes v) b) g s c =
    let k = logic_kind (kind_of d b (range_kinds g)) (at_root (IsSortedPart d) d (Logic op (Yes v) b) g s) in
    let whole : kind_of d (Logic op (Yes v) b) (range_kinds g) ≡ Some TruthKind = ap (λ (o : Option Kind). on_truth o (Some TruthKind)) k in
    if_cases_of (λ y. KeepsForm d y (Logic op (Yes v) b) g) (decides op v) (Yes v) b
    (λ _. record { sorts = refl; scales = refl; same_kind = sym whole }) (λ _. record { sorts = s.1; scales = c.1; same_kind = k ∙ sym whole })
resolved_form d (Logic op a b) g s c =
    let p = truth_then (kind_of d a (range_kinds g)) (on_truth (kind_of d b (range_kinds g)) (Some TruthKind)) _ (root_kind d (Logic op a b) g s) in
    let q = truth_then (kind_of d b (range_kinds g)) (Some TruthKind) _ p.rest in
    let whole : kind_of d (Logic op a b) (range_kinds g) ≡ Some TruthKind = ap₂ (λ (o u : Option Kind). on_truth o (on_truth u (Some TruthKind))) p.first q.first in
    record { sorts = s.1; scales = c.1; same_kind = q.first ∙ sym whole }
resolved_form d x g s c = literal_form d (kind_or (kind_of d x (range_kinds g))) (value_of d x [] [] (pos 0)) x g (root_kind d x g s) c

choice_form : (d : Declarations) (x : Expression) (g : List Range) → is_chosen x ≡ true → IsSorted d x g → IsScaled d x g → KeepsForm d (choice d (range_kinds g) x) x g
choice_form d (Cond (Yes true) a b) g h s c =
    branch_form d a (Cond (Yes true) a b) g (max (scale_of d a (range_kinds g)) (scale_of d b (range_kinds g))) (left_beside (kind_of d a (range_kinds g)) (kind_of d b (range_kinds g)) (at_root (IsSortedPart d) d (Cond (Yes true) a b) g s)) (omega arith) s.1 c.1 c
choice_form d (Cond (Yes false) a b) g h s c =
    branch_form d b (Cond (Yes false) a b) g (max (scale_of d a (range_kinds g)) (scale_of d b (range_kinds g))) (right_beside (kind_of d a (range_kinds g)) (kind_of d b (range_kinds g)) (at_root (IsSortedPart d) d (Cond (Yes false) a b) g s)) (omega arith) s.2 c.2 c
choice_form d (Cond (Lit m i) a b) g h s c = let never = at_root (IsSortedPart d) d (Cond (Lit m i) a b) g s in absurd (cc)
choice_form d (Cond t a b) g h s c = absurd (cc)
choice_form d (Acc body n first) g h s c =
    let ks = range_kinds g in
    let p = days (kind_of d first ks) (λ k. kind_of d body (k ∷ ks)) (kind_or (kind_of d (Acc body n first) ks)) (root_kind d (Acc body n first) g s) in
    record { sorts = s.0; scales = c.0; same_kind = p.first ∙ sym (root_kind d (Acc body n first) g s) }
choice_form d x g h s c = record { sorts = s; scales = c; same_kind = refl }

pub rule_form : (d : Declarations) (x : Expression) (g : List Range) → IsSorted d x g → IsScaled d x g → KeepsForm d (rule d (range_kinds g) x) x g
rule_form d x g s c =
    if_cases_of (λ y. KeepsForm d y x g) (has_literal_operands x) (resolved d (range_kinds g) x) (if is_chosen x then choice d (range_kinds g) x else x) (λ _. resolved_form d x g s c)
    (λ _. if_cases_of (λ y. KeepsForm d y x g) (is_chosen x) (choice d (range_kinds g) x) x (λ p. choice_form d x g p s c) (λ _. record { sorts = s; scales = c; same_kind = refl }))
