-- An expression that stands for another of the same form, among narrower ranges: where its parts meet the rule on bounds
-- and have narrower intervals, so it does itself.
use Rattle.std.proofs.Common.{◌≡◌, ℕ, zero, suc, ◌-◌, ◌≤◌, ◌<◌, Bool, ◌&&◌, IsTrue, List, ◌∷◌, Option, pos, ap, sym, subst, arith}
use Rattle.std.proofs.lemmas.Bool.{and_from}
use Rattle.decimal.specs.declared.rounding.Mode.{Mode}
use Rattle.decimal.specs.Rounding.{raised, at_scale, divided}
use Rattle.term_model.specs.Declarations.{Declarations}
use Rattle.term_model.specs.declared.terms.NumOp.{NumOp}
use Rattle.term_model.specs.declared.terms.CmpOp.{CmpOp}
use Rattle.term_model.specs.declared.terms.LogicOp.{LogicOp}
use Rattle.term_model.specs.declared.values.Kind.{Kind}
use Rattle.term_model.specs.Terms.{Expression, Neg, Num, Cmp, Not, Logic, Cond, Widen, Round, Div, Acc}
use Rattle.term_model.specs.Kinds.{kind_of, scale_of, scale_of_kind, scale_or_zero}
use Rattle.term_model.specs.Values.{kind_or}
use Rattle.term_model.specs.Bounds.{Interval, Range, range_kinds, lifted, hull, corners, aligned, of_op, interval_of, fits, fit_aligned, fit_operands, fit_divided}
use Rattle.interval_check.specs.Nodes.{IsBounded, range_after}
use Rattle.interval_check.specs.Narrowing.{IsNarrower}
use Rattle.interval_check.proofs.TestFacts.{division_fits}
use Rattle.interval_check.proofs.NodeTests.{bound_tests, round_fits}
use Rattle.interval_check.proofs.NarrowFacts.{narrower_same, narrower_hulls, narrower_quotient, narrower_negative, narrower_raised, narrower_rounded, narrower_aligned, narrower_of_op, narrower_fits, narrower_fit_aligned, narrower_fit_operands, narrower_fit_divided}

-- e among ranges h meets the rule on bounds, and its interval is narrower than that of x among ranges g
pub record IsTight (d : Declarations) (e : Expression) (h : List Range) (x : Expression) (g : List Range) : Type 0 where
  pub bounded : IsBounded d e h
  pub inside : IsNarrower (interval_of d e h) (interval_of d x g)

-- e among ranges h has the kind of x among ranges g
abbrev pub SameKind : Declarations → Expression → List Range → Expression → List Range → Type 0
SameKind d e h x g = kind_of d e (range_kinds h) ≡ kind_of d x (range_kinds g)

-- what is known at two scales holds at equal ones
at_scales : (P : ℕ → ℕ → Type 0) (i j k l : ℕ) → k ≡ i → l ≡ j → P i j → P k l
at_scales P i j k l e e' p = subst (λ (x : ℕ). P x l) (sym e) (subst (λ (y : ℕ). P i y) (sym e') p)

same_scale : (o u : Option Kind) → o ≡ u → scale_or_zero o ≡ scale_or_zero u
same_scale o u e = ap scale_or_zero e

-- a node with a narrower interval, whose operands pass
passes : (test : Bool) (i k : Interval) → IsTrue test → IsNarrower i k → IsTrue (fits k) → IsTrue (test && fits i)
passes test i k t h fit = and_from test (fits i) t (narrower_fits i k h fit)

pub tight_neg : (d : Declarations) (e : Expression) (h : List Range) (x : Expression) (g : List Range) → IsTight d e h x g → IsBounded d (Neg x) g → IsTight d (Neg e) h (Neg x) g
tight_neg d e h x g t b =
    let inner = narrower_negative (interval_of d e h) (interval_of d x g) t.inside in
    record { bounded = (t.bounded, narrower_fits _ _ inner (bound_tests d (Neg x) g b.1).1); inside = inner }

pub tight_num : (d : Declarations) (op : NumOp) (a b : Expression) (h : List Range) (x y : Expression) (g : List Range) → SameKind d a h x g → SameKind d b h y g → IsTight d a h x g → IsTight d b h y g → IsBounded d (Num op x y) g → IsTight d (Num op a b) h (Num op x y) g
tight_num d op a b h x y g ka kb ta tb bounds =
    let i = interval_of d a h in
    let j = interval_of d b h in
    let k = interval_of d x g in
    let l = interval_of d y g in
    let p = scale_of d x (range_kinds g) in
    let q = scale_of d y (range_kinds g) in
    let tests = bound_tests d (Num op x y) g bounds.2 in
    let inner = at_scales (λ (s t : ℕ). IsNarrower (of_op op s i t j) (of_op op p k q l)) p q _ _ (same_scale _ _ ka) (same_scale _ _ kb) (narrower_of_op op p q i j k l ta.inside tb.inside) in
    let operands = at_scales (λ (s t : ℕ). IsTrue (fit_operands op s i t j)) p q _ _ (same_scale _ _ ka) (same_scale _ _ kb) (narrower_fit_operands op p q i j k l ta.inside tb.inside tests.0) in
    record { bounded = (ta.bounded, tb.bounded, passes _ _ _ operands inner tests.1); inside = inner }

pub tight_cmp : (d : Declarations) (op : CmpOp) (a b : Expression) (h : List Range) (x y : Expression) (g : List Range) → SameKind d a h x g → SameKind d b h y g → IsTight d a h x g → IsTight d b h y g → IsBounded d (Cmp op x y) g → IsTight d (Cmp op a b) h (Cmp op x y) g
tight_cmp d op a b h x y g ka kb ta tb bounds =
    let i = interval_of d a h in
    let j = interval_of d b h in
    let k = interval_of d x g in
    let l = interval_of d y g in
    let p = scale_of d x (range_kinds g) in
    let q = scale_of d y (range_kinds g) in
    let tests = bound_tests d (Cmp op x y) g bounds.2 in
    let operands = at_scales (λ (s t : ℕ). IsTrue (fit_aligned s i t j)) p q _ _ (same_scale _ _ ka) (same_scale _ _ kb) (narrower_fit_aligned p q i j k l ta.inside tb.inside tests.0) in
    record { bounded = (ta.bounded, tb.bounded, passes _ _ _ operands (narrower_same (pos 0)) tests.1); inside = narrower_same (pos 0) }

pub tight_not : (d : Declarations) (e : Expression) (h : List Range) (x : Expression) (g : List Range) → IsTight d e h x g → IsBounded d (Not x) g → IsTight d (Not e) h (Not x) g
tight_not d e h x g t b = record { bounded = (t.bounded, b.1); inside = narrower_same (pos 0) }

pub tight_logic : (d : Declarations) (op : LogicOp) (a b : Expression) (h : List Range) (x y : Expression) (g : List Range) → IsTight d a h x g → IsTight d b h y g → IsBounded d (Logic op x y) g → IsTight d (Logic op a b) h (Logic op x y) g
tight_logic d op a b h x y g ta tb bounds =
    record { bounded = (ta.bounded, tb.bounded, bounds.2); inside = narrower_same (pos 0) }

pub tight_cond : (d : Declarations) (t a b : Expression) (h : List Range) (z x y : Expression) (g : List Range) → SameKind d a h x g → SameKind d b h y g → IsTight d t h z g → IsTight d a h x g → IsTight d b h y g → IsBounded d (Cond z x y) g → IsTight d (Cond t a b) h (Cond z x y) g
tight_cond d t a b h z x y g ka kb tz ta tb bounds =
    let i = interval_of d a h in
    let j = interval_of d b h in
    let k = interval_of d x g in
    let l = interval_of d y g in
    let p = scale_of d x (range_kinds g) in
    let q = scale_of d y (range_kinds g) in
    let tests = bound_tests d (Cond z x y) g bounds.3 in
    let inner = at_scales (λ (s t : ℕ). IsNarrower (hull (aligned s t i) (aligned t s j)) (hull (aligned p q k) (aligned q p l))) p q _ _ (same_scale _ _ ka) (same_scale _ _ kb) (narrower_hulls _ _ _ _ (narrower_aligned p q i k ta.inside) (narrower_aligned q p j l tb.inside)) in
    let operands = at_scales (λ (s t : ℕ). IsTrue (fit_aligned s i t j)) p q _ _ (same_scale _ _ ka) (same_scale _ _ kb) (narrower_fit_aligned p q i j k l ta.inside tb.inside tests.0) in
    record { bounded = (tz.bounded, ta.bounded, tb.bounded, passes _ _ _ operands inner tests.1); inside = inner }

pub tight_widen : (d : Declarations) (s : ℕ) (e : Expression) (h : List Range) (x : Expression) (g : List Range) → SameKind d e h x g → IsTight d e h x g → IsBounded d (Widen s x) g → IsTight d (Widen s e) h (Widen s x) g
tight_widen d s e h x g ke t b =
    let p = scale_of d x (range_kinds g) in
    let inner = at_scales (λ (u v : ℕ). IsNarrower (lifted (λ m. raised m (s - u)) (interval_of d e h)) (interval_of d (Widen s x) g)) p p _ _ (same_scale _ _ ke) (same_scale _ _ ke) (narrower_raised (s - p) (interval_of d e h) (interval_of d x g) t.inside) in
    record { bounded = (t.bounded, narrower_fits _ _ inner (bound_tests d (Widen s x) g b.1).1); inside = inner }

pub tight_round : (d : Declarations) (mode : Mode) (s : ℕ) (e : Expression) (h : List Range) (x : Expression) (g : List Range) → SameKind d e h x g → IsTight d e h x g → IsBounded d (Round mode s x) g → IsTight d (Round mode s e) h (Round mode s x) g
tight_round d mode s e h x g ke t b =
    let p = scale_of d x (range_kinds g) in
    let inner = at_scales (λ (u v : ℕ). IsNarrower (lifted (λ m. at_scale mode m u s) (interval_of d e h)) (interval_of d (Round mode s x) g)) p p _ _ (same_scale _ _ ke) (same_scale _ _ ke) (narrower_rounded mode p s (interval_of d e h) (interval_of d x g) t.inside) in
    record { bounded = (t.bounded, narrower_fits _ _ inner (bound_tests d (Round mode s x) g b.1).1); inside = inner }

pub tight_div : (d : Declarations) (mode : Mode) (s : ℕ) (a b : Expression) (h : List Range) (x y : Expression) (g : List Range) → SameKind d a h x g → SameKind d b h y g → IsTight d a h x g → IsTight d b h y g → IsBounded d (Div mode s x y) g → IsTight d (Div mode s a b) h (Div mode s x y) g
tight_div d mode s a b h x y g ka kb ta tb bounds =
    let i = interval_of d a h in
    let j = interval_of d b h in
    let k = interval_of d x g in
    let l = interval_of d y g in
    let p = scale_of d x (range_kinds g) in
    let q = scale_of d y (range_kinds g) in
    let tests = bound_tests d (Div mode s x y) g bounds.2 in
    let sign = (division_fits p k q l s tests.0).sign in
    let inner = at_scales (λ (u v : ℕ). IsNarrower (corners (λ m n. divided mode m u n v s) i j) (interval_of d (Div mode s x y) g)) p q _ _ (same_scale _ _ ka) (same_scale _ _ kb) (narrower_quotient mode p q s i j k l sign ta.inside tb.inside) in
    let operands = at_scales (λ (u v : ℕ). IsTrue (fit_divided u i v j s)) p q _ _ (same_scale _ _ ka) (same_scale _ _ kb) (narrower_fit_divided p q s i j k l ta.inside tb.inside tests.0) in
    record { bounded = (ta.bounded, tb.bounded, passes _ _ _ operands inner tests.1); inside = inner }

-- the rounds of an accumulator

-- a body in its round, once the interval of the name is narrower
abbrev pub RoundIsTight : Declarations → Expression → Expression → List Range → Expression → Expression → List Range → ℕ → Type 0
RoundIsTight d body first h body' first' g i =
    IsNarrower (interval_of d (Acc body i first) h) (interval_of d (Acc body' i first') g)
    → IsTight d body (range_after d body i first h ∷ h) body' (range_after d body' i first' g ∷ g)

-- a round that begins in a narrower interval ends in one
round_narrows : (d : Declarations) (body first : Expression) (h : List Range) (body' first' : Expression) (g : List Range) (i : ℕ) → SameKind d first h first' g → SameKind d body (range_after d body 0 first h ∷ h) body' (range_after d body' 0 first' g ∷ g) → IsNarrower (interval_of d body (range_after d body i first h ∷ h)) (interval_of d body' (range_after d body' i first' g ∷ g)) → IsNarrower (interval_of d (Acc body (suc i) first) h) (interval_of d (Acc body' (suc i) first') g)
round_narrows d body first h body' first' g i kf kb narrow =
    let l = kind_or (kind_of d first' (range_kinds g)) in
    let p = scale_of_kind l in
    let q = scale_of d body' (l ∷ range_kinds g) in
    at_scales (λ (u v : ℕ). IsNarrower (lifted (λ m. raised m (u - v)) (interval_of d body (range_after d body i first h ∷ h))) (interval_of d (Acc body' (suc i) first') g)) p q _ _ (ap (λ (o : Option Kind). scale_of_kind (kind_or o)) kf) (same_scale _ _ kb) (narrower_raised (p - q) _ _ narrow)

rounds_narrow : (d : Declarations) (body : Expression) (n : ℕ) (first : Expression) (h : List Range) (body' first' : Expression) (g : List Range) → SameKind d first h first' g → SameKind d body (range_after d body 0 first h ∷ h) body' (range_after d body' 0 first' g ∷ g) → IsTight d first h first' g → ((i : ℕ) → i < n → RoundIsTight d body first h body' first' g i) → (i : ℕ) → i ≤ n → IsNarrower (interval_of d (Acc body i first) h) (interval_of d (Acc body' i first') g)
rounds_narrow d body n first h body' first' g kf kb t each zero l = t.inside
rounds_narrow d body n first h body' first' g kf kb t each (suc i) l =
    let before = rounds_narrow d body n first h body' first' g kf kb t each i (omega arith) in
    round_narrows d body first h body' first' g i kf kb (each i (omega arith) before).inside

pub tight_acc : (d : Declarations) (body : Expression) (n : ℕ) (first : Expression) (h : List Range) (body' first' : Expression) (g : List Range) → SameKind d first h first' g → SameKind d body (range_after d body 0 first h ∷ h) body' (range_after d body' 0 first' g ∷ g) → IsTight d first h first' g → ((i : ℕ) → i < n → RoundIsTight d body first h body' first' g i) → IsBounded d (Acc body' n first') g → IsTight d (Acc body n first) h (Acc body' n first') g
tight_acc d body n first h body' first' g kf kb t each bounds =
    record {
      bounded = (t.bounded, λ i l. ((each i l (rounds i (omega arith))).bounded, narrower_fits _ _ (rounds (suc i) (omega arith)) (round_fits d body' n i first' g bounds l)));
      inside = rounds n (omega arith);
    }
  where
    rounds : (i : ℕ) → i ≤ n → IsNarrower (interval_of d (Acc body i first) h) (interval_of d (Acc body' i first') g)
    rounds = rounds_narrow d body n first h body' first' g kf kb t each
