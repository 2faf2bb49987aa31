-- An expression that uses no name bound outside it meets the rules without any names.
use Rattle.std.proofs.Common.{◌≡◌, ℕ, suc, ◌+◌, Bool, ◌&&◌, nat_le, IsTrue, is_some, List, [], ◌∷◌, Option, refl, ap, sym, subst, ◌∙◌, arith}
use Rattle.term_model.specs.Declarations.{Declarations}
use Rattle.term_model.specs.declared.values.Kind.{Kind}
use Rattle.term_model.specs.Terms.{Expression, Lit, Yes, Var, Obs, Neg, Num, Cmp, Not, Logic, Cond, Widen, Round, Div, Acc}
use Rattle.term_model.specs.WellFormed.{IsWellFormed}
use Rattle.term_model.specs.Kinds.{kind_of, scale_of}
use Rattle.term_model.specs.Values.{kind_or}
use Rattle.term_model.specs.Sites.{Trial, Once, EachDay, Part, OfExpression}
use Rattle.term_model.specs.Scales.{greatest_scale}
use Rattle.term_model.specs.Bounds.{Interval, Range, range_kinds, interval_of, operands_fit, fits, fit_aligned, fit_operands, fit_divided}
use Rattle.interval_check.specs.Nodes.{InRounds, EachNode, IsSortedPart, IsScaledPart, IsBoundedPart, has_scaled_parts, range_after}
use Rattle.interval_check.specs.Guarantees.{ClosedNeedNoNames, ClosedPartsAreSafe}
use Rattle.interval_check.proofs.NameFacts.{AgreeOn, under, kinds_agree, kind_same, scale_same, at_same, interval_same}
use Rattle.interval_check.proofs.GuaranteeFacts.{accepted_meet_rules, parts_meet_rules, expressions_are_safe}

-- a rule that asks only of the names that are used
abbrev AsksOfUsed : Declarations → (List Range → Part → Type 0) → Type 0
AsksOfUsed d P =
    (e : Expression) (k : ℕ) (g h : List Range) → IsWellFormed d k e → AgreeOn k g h → P g (OfExpression e) → P h (OfExpression e)

rounds_agree : (w : Trial) (n : ℕ) (B W C V : ℕ → Type 0) → ((i : ℕ) → B i → C i) → ((i : ℕ) → W i → V i) → InRounds w n B W → InRounds w n C V
rounds_agree Once n B W C V b v h = (b 0 h.0, v n h.1)
rounds_agree EachDay n B W C V b v h = λ i l. (b i (h i l).0, v (suc i) (h i l).1)

-- the name of an accumulator
same_round : (d : Declarations) (body : Expression) (i : ℕ) (first : Expression) (k : ℕ) (g h : List Range) → IsWellFormed d k (Acc body i first) → AgreeOn k g h → range_after d body i first g ≡ range_after d body i first h
same_round d body i first k g h wf same =
    let kinds : kind_or (kind_of d first (range_kinds g)) ≡ kind_or (kind_of d first (range_kinds h)) = ap kind_or (kind_same d first k (range_kinds g) (range_kinds h) wf.1 (kinds_agree k g h same)) in
    at_same (λ n i m j. record { interval = i; kind = kind_or (kind_of d first (range_kinds g)) }) 0 0 _ _ 0 0 (interval_of d (Acc body i first) g) (interval_of d (Acc body i first) g) refl (interval_same d (Acc body i first) k g h wf same) refl refl
    ∙ ap (λ (l : Kind). record { interval = interval_of d (Acc body i first) h; kind = l }) kinds

nodes_agree : (d : Declarations) (P : List Range → Part → Type 0) → AsksOfUsed d P → (w : Trial) (e : Expression) (k : ℕ) (g h : List Range) → IsWellFormed d k e → AgreeOn k g h → EachNode P w d e g → EachNode P w d e h
nodes_agree d P q w (Lit m s) k g h wf same p = q (Lit m s) k g h wf same p
nodes_agree d P q w (Yes b) k g h wf same p = q (Yes b) k g h wf same p
nodes_agree d P q w (Var back) k g h wf same p = q (Var back) k g h wf same p
nodes_agree d P q w (Obs l t) k g h wf same p = q (Obs l t) k g h wf same p
nodes_agree d P q w (Neg e) k g h wf same p = (nodes_agree d P q w e k g h wf same p.0, q (Neg e) k g h wf same p.1)
nodes_agree d P q w (Num op a b) k g h wf same p =
    (nodes_agree d P q w a k g h wf.0 same p.0, nodes_agree d P q w b k g h wf.1 same p.1, q (Num op a b) k g h wf same p.2)
nodes_agree d P q w (Cmp op a b) k g h wf same p =
    (nodes_agree d P q w a k g h wf.0 same p.0, nodes_agree d P q w b k g h wf.1 same p.1, q (Cmp op a b) k g h wf same p.2)
nodes_agree d P q w (Not e) k g h wf same p = (nodes_agree d P q w e k g h wf same p.0, q (Not e) k g h wf same p.1)
nodes_agree d P q w (Logic op a b) k g h wf same p =
    (nodes_agree d P q w a k g h wf.0 same p.0, nodes_agree d P q w b k g h wf.1 same p.1, q (Logic op a b) k g h wf same p.2)
nodes_agree d P q w (Cond t a b) k g h wf same p =
    (nodes_agree d P q w t k g h wf.0 same p.0, nodes_agree d P q w a k g h wf.1 same p.1, nodes_agree d P q w b k g h wf.2 same p.2, q (Cond t a b) k g h wf same p.3)
nodes_agree d P q w (Widen s e) k g h wf same p = (nodes_agree d P q w e k g h wf same p.0, q (Widen s e) k g h wf same p.1)
nodes_agree d P q w (Round mode s e) k g h wf same p = (nodes_agree d P q w e k g h wf same p.0, q (Round mode s e) k g h wf same p.1)
nodes_agree d P q w (Div mode s a b) k g h wf same p =
    (nodes_agree d P q w a k g h wf.0 same p.0, nodes_agree d P q w b k g h wf.1 same p.1, q (Div mode s a b) k g h wf same p.2)
nodes_agree d P q w (Acc body n first) k g h wf same p = (
  nodes_agree d P q w first k g h wf.1 same p.0,
  rounds_agree w n (λ i. EachNode P w d body (range_after d body i first g ∷ g)) (λ i. P g (OfExpression (Acc body i first))) (λ i. EachNode P w d body (range_after d body i first h ∷ h)) (λ i. P h (OfExpression (Acc body i first)))
      (λ i b. nodes_agree d P q w body (k + 1) (range_after d body i first g ∷ g) (range_after d body i first h ∷ h) wf.0 (under k _ _ g h (same_round d body i first k g h wf same) same) b)
      (λ i v. q (Acc body i first) k g h wf same v) p.1,
)

-- each rule

sorts_agree : (d : Declarations) → AsksOfUsed d (IsSortedPart d)
sorts_agree d e k g h wf same p =
    subst (λ (o : Option Kind). IsTrue (is_some o)) (kind_same d e k (range_kinds g) (range_kinds h) wf (kinds_agree k g h same)) p

scaled_parts_agree : (d : Declarations) (e : Expression) (k : ℕ) (g h : List Range) → IsWellFormed d k e → AgreeOn k g h → has_scaled_parts d (range_kinds g) e ≡ has_scaled_parts d (range_kinds h) e
scaled_parts_agree d (Lit m s) k g h wf same = refl
scaled_parts_agree d (Yes b) k g h wf same = refl
scaled_parts_agree d (Var back) k g h wf same = refl
scaled_parts_agree d (Obs l t) k g h wf same = refl
scaled_parts_agree d (Neg e) k g h wf same = refl
scaled_parts_agree d (Num op a b) k g h wf same = refl
scaled_parts_agree d (Cmp op a b) k g h wf same = refl
scaled_parts_agree d (Not e) k g h wf same = refl
scaled_parts_agree d (Logic op a b) k g h wf same = refl
scaled_parts_agree d (Cond t a b) k g h wf same = refl
scaled_parts_agree d (Widen s e) k g h wf same = ap (λ (n : ℕ). nat_le n s) (scale_same d e k g h wf same)
scaled_parts_agree d (Round mode s e) k g h wf same = refl
scaled_parts_agree d (Div mode s a b) k g h wf same = refl
scaled_parts_agree d (Acc body n first) k g h wf same =
    let low = scale_same d body (k + 1) (range_after d body 0 first g ∷ g) (range_after d body 0 first h ∷ h) wf.0 (under k _ _ g h (same_round d body 0 first k g h wf same) same) in
    ap (λ (m : ℕ). nat_le m (scale_of d first (range_kinds g))) low ∙ ap (λ (m : ℕ). nat_le (scale_of d body (range_kinds (range_after d body 0 first h ∷ h))) m) (scale_same d first k g h wf.1 same)

scales_agree : (d : Declarations) → AsksOfUsed d (IsScaledPart d)
scales_agree d e k g h wf same p =
    sym (ap (λ (n : ℕ). nat_le n greatest_scale && has_scaled_parts d (range_kinds g) e) (scale_same d e k g h wf same) ∙ ap (λ (b : Bool). nat_le (scale_of d e (range_kinds h)) greatest_scale && b) (scaled_parts_agree d e k g h wf same)) ∙ p

operands_agree : (d : Declarations) (e : Expression) (k : ℕ) (g h : List Range) → IsWellFormed d k e → AgreeOn k g h → operands_fit d g e ≡ operands_fit d h e
operands_agree d (Lit m s) k g h wf same = refl
operands_agree d (Yes b) k g h wf same = refl
operands_agree d (Var back) k g h wf same = refl
operands_agree d (Obs l t) k g h wf same = refl
operands_agree d (Neg e) k g h wf same = refl
operands_agree d (Num op a b) k g h wf same =
    at_same (λ p i q j. fit_operands op p i q j) _ _ _ _ _ _ _ _ (scale_same d a k g h wf.0 same) (interval_same d a k g h wf.0 same) (scale_same d b k g h wf.1 same) (interval_same d b k g h wf.1 same)
operands_agree d (Cmp op a b) k g h wf same =
    at_same (λ p i q j. fit_aligned p i q j) _ _ _ _ _ _ _ _ (scale_same d a k g h wf.0 same) (interval_same d a k g h wf.0 same) (scale_same d b k g h wf.1 same) (interval_same d b k g h wf.1 same)
operands_agree d (Not e) k g h wf same = refl
operands_agree d (Logic op a b) k g h wf same = refl
operands_agree d (Cond t a b) k g h wf same =
    at_same (λ p i q j. fit_aligned p i q j) _ _ _ _ _ _ _ _ (scale_same d a k g h wf.1 same) (interval_same d a k g h wf.1 same) (scale_same d b k g h wf.2 same) (interval_same d b k g h wf.2 same)
operands_agree d (Widen s e) k g h wf same = refl
operands_agree d (Round mode s e) k g h wf same = refl
operands_agree d (Div mode s a b) k g h wf same =
    at_same (λ p i q j. fit_divided p i q j s) _ _ _ _ _ _ _ _ (scale_same d a k g h wf.0 same) (interval_same d a k g h wf.0 same) (scale_same d b k g h wf.1 same) (interval_same d b k g h wf.1 same)
operands_agree d (Acc body n first) k g h wf same = refl

bounds_agree : (d : Declarations) → AsksOfUsed d (IsBoundedPart d)
bounds_agree d e k g h wf same p =
    sym (ap (λ (b : Bool). b && fits (interval_of d e g)) (operands_agree d e k g h wf same) ∙ ap (λ (i : Interval). operands_fit d h e && fits i) (interval_same d e k g h wf same)) ∙ p

pub closed_need_no_names : ClosedNeedNoNames
closed_need_no_names d e g wf rules =
    let none : AgreeOn 0 g [] = λ back l. absurd (omega arith) in
    record {
      sorts = nodes_agree d (IsSortedPart d) (sorts_agree d) Once e 0 g [] wf none rules.sorts;
      scales = nodes_agree d (IsScaledPart d) (scales_agree d) Once e 0 g [] wf none rules.scales;
      bounds = nodes_agree d (IsBoundedPart d) (bounds_agree d) EachDay e 0 g [] wf none rules.bounds;
    }

pub closed_parts_are_safe : ClosedPartsAreSafe
closed_parts_are_safe d c e h env f limits accepted stands wf admitted =
    let rules = parts_meet_rules d e h c [] stands (accepted_meet_rules d c accepted) in
    expressions_are_safe d e [] [] env f limits (closed_need_no_names d e h wf rules) tt admitted
