-- What the rule makes of an expression may stand in its place.
use Rattle.std.proofs.Common.{◌≡◌, ℕ, pos, ◌&&◌, Bool, true, false, if◌then◌else◌, Option, Some, List, ◌∷◌, [], refl, ap, sym, subst, ◌∙◌}
use Rattle.term_model.specs.Declarations.{Declarations}
use Rattle.term_model.specs.declared.terms.LogicOp.{LogicOp}
use Rattle.term_model.specs.declared.terms.LogicOp.TheVariants.{And, Or}
use Rattle.term_model.specs.declared.values.Kind.{Kind}
use Rattle.term_model.specs.declared.values.Kind.TheVariants.{Truth as TruthKind}
use Rattle.term_model.specs.declared.values.Value.{Value}
use Rattle.term_model.specs.Terms.{Expression, Lit, Yes, Var, Obs, Neg, Num, Cmp, Not, Logic, Cond, Widen, Round, Div, Acc}
use Rattle.term_model.specs.Kinds.{kind_of, scale_of, on_truth}
use Rattle.term_model.specs.Values.{Entry, kind_or, value_of}
use Rattle.term_model.specs.Redexes.{is_literal, has_literal_operands, names_within}
use Rattle.term_model.specs.Bounds.{Interval, Range, range_kinds, single, interval_of}
use Rattle.interval_check.specs.Nodes.{IsSortedPart, MeetsRules}
use Rattle.interval_check.specs.Narrowing.{IsNarrower, AreNarrower}
use Rattle.interval_check.specs.Within.{AreWithin, KeepsLimits}
use Rattle.rewriting.specs.Replacing.{Replaces, literal_of, branch_at}
use Rattle.interval_check.proofs.KindsFound.{truth_then, days}
use Rattle.interval_check.proofs.NarrowFacts.{narrower_same}
use Rattle.interval_check.proofs.NarrowerFacts.{stays_tight}
use Rattle.interval_check.proofs.NodeTests.{at_root, some_kind}
use Rattle.rewriting.proofs.StandingFacts.{values_replace, branches_replace, joined_scale}
use Rattle.interval_check.proofs.SuitedFacts.{nothing_fixed}
use Rattle.simplify.specs.Turning.{is_chosen, resolved, choice}
use Rattle.specialise.proofs.ClosedFacts.{value_among, both_none}
use Rattle.specialise.proofs.SpecialRules.{itself}
use Rattle.simplify.proofs.RuleFlows.{is_zero_count}
use Rattle.simplify.specs.LawsRulesStand.{TruthsAreNothing, RuleReplaces}
use Rattle.simplify.proofs.TruthIntervals.{truths_have_nothing}

root_kind : (d : Declarations) (x : Expression) (g : List Range) → MeetsRules d x g → kind_of d x (range_kinds g) ≡ Some (kind_or (kind_of d x (range_kinds g)))
root_kind d x g r = some_kind (kind_of d x (range_kinds g)) (at_root (IsSortedPart d) d x g r.sorts)

-- the value of an expression that holds no name
value_stands : (d : Declarations) (x : Expression) (g : List Range) (es : List Entry) → KeepsLimits d → AreWithin g es → MeetsRules d x g → names_within 0 x ≡ true → Replaces d (literal_of (kind_or (kind_of d x (range_kinds g))) (value_of d x [] [] (pos 0))) x g
value_stands d x g es limits within r closed =
    subst (λ (v : Value). Replaces d (literal_of (kind_or (kind_of d x (range_kinds g))) v) x g) (sym (value_among d x 0 [] es [] (pos 0) closed (both_none [] es)))
    (values_replace d x g es [] (pos 0) (kind_or (kind_of d x (range_kinds g))) limits r within (nothing_fixed d) (root_kind d x g r))

literal_closed : (e : Expression) → is_literal e ≡ true → names_within 0 e ≡ true
literal_closed (Lit m s) h = refl
literal_closed (Yes b) h = refl
literal_closed (Var back) h = absurd (cc)
literal_closed (Obs l t) h = refl
literal_closed (Neg e) h = absurd (cc)
literal_closed (Num op a b) h = absurd (cc)
literal_closed (Cmp op a b) h = absurd (cc)
literal_closed (Not e) h = absurd (cc)
literal_closed (Logic op a b) h = absurd (cc)
literal_closed (Cond t a b) h = absurd (cc)
literal_closed (Widen s e) h = absurd (cc)
literal_closed (Round mode s e) h = absurd (cc)
literal_closed (Div mode s a b) h = absurd (cc)
literal_closed (Acc body n first) h = absurd (cc)

two_closed : (a b : Expression) → (is_literal a && is_literal b) ≡ true → (names_within 0 a && names_within 0 b) ≡ true
two_closed a b h = at (is_literal a) (is_literal b) refl refl h
  where
    at : (p q : Bool) → is_literal a ≡ p → is_literal b ≡ q → (p && q) ≡ true → (names_within 0 a && names_within 0 b) ≡ true
    at true true x y h = rw (literal_closed a x) (literal_closed b y)
    at true false x y h = absurd (cc)
    at false q x y h = absurd (cc)

-- the right side of `&` or `|`
side_stands : (d : Declarations) (op : LogicOp) (v : Bool) (b : Expression) (g : List Range) → TruthsAreNothing g → MeetsRules d (Logic op (Yes v) b) g → Replaces d b (Logic op (Yes v) b) g
side_stands d op v b g t r =
    let ks = range_kinds g in
    let p = truth_then (kind_of d b ks) (Some TruthKind) (kind_or (on_truth (kind_of d b ks) (Some TruthKind))) (root_kind d (Logic op (Yes v) b) g r) in
    let none = truths_have_nothing d b g t p.first in
    record {
      rules = record { sorts = r.sorts.1; scales = r.scales.1; bounds = r.bounds.1 };
      same_kind = p.first ∙ sym (ap (λ (o : Option Kind). on_truth o (Some TruthKind)) p.first);
      inside = subst (λ (i : Interval). IsNarrower i (single (pos 0))) (sym none) (narrower_same (pos 0));
    }

-- the deciding left side has the value of the whole
left_stands : (d : Declarations) (op : LogicOp) (v : Bool) (b : Expression) (g : List Range) (es : List Entry) → KeepsLimits d → AreWithin g es → MeetsRules d (Logic op (Yes v) b) g → literal_of TruthKind (value_of d (Logic op (Yes v) b) es [] (pos 0)) ≡ Yes v → Replaces d (Yes v) (Logic op (Yes v) b) g
left_stands d op v b g es limits within r e =
    let ks = range_kinds g in
    let p = truth_then (kind_of d b ks) (Some TruthKind) (kind_or (on_truth (kind_of d b ks) (Some TruthKind))) (root_kind d (Logic op (Yes v) b) g r) in
    let kind : kind_of d (Logic op (Yes v) b) ks ≡ Some TruthKind = ap (λ (o : Option Kind). on_truth o (Some TruthKind)) p.first in
    subst (λ (y : Expression). Replaces d y (Logic op (Yes v) b) g) e (values_replace d (Logic op (Yes v) b) g es [] (pos 0) TruthKind limits r within (nothing_fixed d) kind)

logic_stands : (d : Declarations) (op : LogicOp) (v : Bool) (b : Expression) (g : List Range) (es : List Entry) → KeepsLimits d → AreWithin g es → TruthsAreNothing g → MeetsRules d (Logic op (Yes v) b) g → Replaces d (resolved d (range_kinds g) (Logic op (Yes v) b)) (Logic op (Yes v) b) g
logic_stands d And true b g es limits within t r = side_stands d And true b g t r
logic_stands d And false b g es limits within t r = left_stands d And false b g es limits within r refl
logic_stands d Or true b g es limits within t r = left_stands d Or true b g es limits within r refl
logic_stands d Or false b g es limits within t r = side_stands d Or false b g t r

resolved_stands : (d : Declarations) (x : Expression) (g : List Range) (es : List Entry) → KeepsLimits d → AreWithin g es → TruthsAreNothing g → MeetsRules d x g → has_literal_operands x ≡ true → Replaces d (resolved d (range_kinds g) x) x g
resolved_stands d (Logic op (Yes v) b) g es limits within t r h = logic_stands d op v b g es limits within t r
resolved_stands d (Logic op (Lit m s) b) g es limits within t r h = let never = at_root (IsSortedPart d) d (Logic op (Lit m s) b) g r.sorts in absurd (cc)
resolved_stands d (Logic op x b) g es limits within t r h = absurd (cc)
resolved_stands d (Neg x) g es limits within t r h = value_stands d (Neg x) g es limits within r (literal_closed x h)
resolved_stands d (Num op x y) g es limits within t r h = value_stands d (Num op x y) g es limits within r (two_closed x y h)
resolved_stands d (Cmp op x y) g es limits within t r h = value_stands d (Cmp op x y) g es limits within r (two_closed x y h)
resolved_stands d (Not x) g es limits within t r h = value_stands d (Not x) g es limits within r (literal_closed x h)
resolved_stands d (Widen s x) g es limits within t r h = value_stands d (Widen s x) g es limits within r (literal_closed x h)
resolved_stands d (Round mode s x) g es limits within t r h = value_stands d (Round mode s x) g es limits within r (literal_closed x h)
resolved_stands d (Div mode s x y) g es limits within t r h = value_stands d (Div mode s x y) g es limits within r (two_closed x y h)
resolved_stands d (Lit m s) g es limits within t r h = absurd (cc)
resolved_stands d (Yes b) g es limits within t r h = absurd (cc)
resolved_stands d (Var back) g es limits within t r h = absurd (cc)
resolved_stands d (Obs l u) g es limits within t r h = absurd (cc)
resolved_stands d (Cond c x y) g es limits within t r h = absurd (cc)
resolved_stands d (Acc body n first) g es limits within t r h = absurd (cc)

-- the start of an accumulator of no days
start_stands : (d : Declarations) (body first : Expression) (n : ℕ) (g : List Range) → KeepsLimits d → AreNarrower g g → n ≡ 0 → MeetsRules d (Acc body n first) g → Replaces d first (Acc body n first) g
start_stands d body first n g limits ordered z r =
    let ks = range_kinds g in
    let p = days (kind_of d first ks) (λ k. kind_of d body (k ∷ ks)) (kind_or (kind_of d (Acc body n first) ks)) (root_kind d (Acc body n first) g r) in
    let same : interval_of d (Acc body n first) g ≡ interval_of d first g = ap (λ (m : ℕ). interval_of d (Acc body m first) g) z in
    record {
      rules = record { sorts = r.sorts.0; scales = r.scales.0; bounds = r.bounds.0 };
      same_kind = p.first ∙ sym (root_kind d (Acc body n first) g r);
      inside = subst (λ (i : Interval). IsNarrower (interval_of d first g) i) (sym same) (stays_tight d limits first g g ordered r.bounds.0).inside;
    }

choice_stands : (d : Declarations) (x : Expression) (g : List Range) → KeepsLimits d → AreNarrower g g → MeetsRules d x g → is_chosen x ≡ true → Replaces d (choice d (range_kinds g) x) x g
choice_stands d (Cond (Yes true) a b) g limits ordered r h =
    let same = joined_scale (kind_of d a (range_kinds g)) (kind_of d b (range_kinds g)) (at_root (IsSortedPart d) d (Cond (Yes true) a b) g r.sorts) in
    subst (λ (s : ℕ). Replaces d (branch_at (scale_of d a (range_kinds g)) s a) (Cond (Yes true) a b) g) same (branches_replace d (Yes true) a b g limits ordered r).0
choice_stands d (Cond (Yes false) a b) g limits ordered r h =
    let same = joined_scale (kind_of d a (range_kinds g)) (kind_of d b (range_kinds g)) (at_root (IsSortedPart d) d (Cond (Yes false) a b) g r.sorts) in
    subst (λ (s : ℕ). Replaces d (branch_at (scale_of d b (range_kinds g)) s b) (Cond (Yes false) a b) g) same (branches_replace d (Yes false) a b g limits ordered r).1
choice_stands d (Cond (Lit m s) a b) g limits ordered r h = let never = at_root (IsSortedPart d) d (Cond (Lit m s) a b) g r.sorts in absurd (cc)
choice_stands d (Cond c a b) g limits ordered r h = absurd (cc)
choice_stands d (Acc body n first) g limits ordered r h = start_stands d body first n g limits ordered (is_zero_count n h) r
choice_stands d (Lit m s) g limits ordered r h = absurd (cc)
choice_stands d (Yes b) g limits ordered r h = absurd (cc)
choice_stands d (Var back) g limits ordered r h = absurd (cc)
choice_stands d (Obs l u) g limits ordered r h = absurd (cc)
choice_stands d (Neg x) g limits ordered r h = absurd (cc)
choice_stands d (Num op x y) g limits ordered r h = absurd (cc)
choice_stands d (Cmp op x y) g limits ordered r h = absurd (cc)
choice_stands d (Not x) g limits ordered r h = absurd (cc)
choice_stands d (Logic op x y) g limits ordered r h = absurd (cc)
choice_stands d (Widen s x) g limits ordered r h = absurd (cc)
choice_stands d (Round mode s x) g limits ordered r h = absurd (cc)
choice_stands d (Div mode s x y) g limits ordered r h = absurd (cc)

pub rule_replaces : RuleReplaces
rule_replaces d x g es limits ordered within t r = at (has_literal_operands x) (is_chosen x) refl refl
  where
    at : (b c : Bool) → has_literal_operands x ≡ b → is_chosen x ≡ c → Replaces d (if b then resolved d (range_kinds g) x else (if c then choice d (range_kinds g) x else x)) x g
    at true c p q = resolved_stands d x g es limits within t r p
    at false true p q = choice_stands d x g limits ordered r q
    at false false p q = itself d limits x g ordered r
