-- Accepted code meets the rules by which values are known, at each of its value expressions: from the list of sites to the
-- structure, and from the undated expression to that of a setting.
use Rattle.std.proofs.Common.{◌≡◌, ℕ, suc, ℤ, pos, ◌+◌, Bool, ◌&&◌, List, [], ◌∷◌, ◌++◌, map, Option, IsTrue, is_some, nat_le, refl, ap, ap₂, subst, ◌∙◌}
use Rattle.term_model.specs.Declarations.{Declarations}
use Rattle.term_model.specs.declared.values.Kind.{Kind}
use Rattle.term_model.specs.Kinds.{kind_of, scale_of}
use Rattle.term_model.specs.Values.{kind_or}
use Rattle.term_model.specs.Scales.{is_scaled, greatest_scale}
use Rattle.term_model.specs.Sorts.{is_sorted}
use Rattle.term_model.specs.Bounds.{Interval, Range, range_kinds, ranges_round, is_bounded, operands_fit, fit_operands, fit_aligned, fit_divided, fits}
use Rattle.term_model.specs.Sites.{Trial, Once, EachDay, Part, OfExpression, Layer, Naming, Site, sites_of, AllPass}
use Rattle.interval_check.specs.Nodes.{EachNode, InRounds, range_after, IsSortedPart, IsScaledPart, IsBoundedPart, has_scaled_parts}
use Rattle.interval_check.proofs.NodeFacts.{nodes_hold}
use Rattle.interval_check.proofs.RuleFacts.{sorted_is, scaled_is}
use Rattle.payoff_terms.specs.TemplateDates.{Date, day_of}
use Rattle.payoff_terms.specs.Dating.{dated_by, at_setting, undated}
use Rattle.payoff_terms.specs.Code.{ValueExpression, Lit, Yes, Var, Model, Neg, Num, Cmp, Not, Logic, Cond, Widen, Round, Div, Acc, PayoffCode, Nothing, PayOn, Add, ScaleBy, LetBe, Loop, Cut}
use Rattle.payoff_terms.specs.CodeSites.{CodeSite, InValue, value_sites, sites_of_code, AllPassInCode}
use Rattle.payoff_terms.specs.CodeAcceptance.{IsAcceptedCode, code_is_sorted, code_is_scaled, code_is_bounded}
use Rattle.payoff_terms.proofs.DateFreeFacts.{kind_any, scale_any, interval_any, two_intervals}
use Rattle.payoff_eval.specs.CodeRules.{CodeMeetsRules}

-- ---- from one date to another

rounds_any : (w : Trial) (n : ℕ) (B B' W W' : ℕ → Type 0) → ((i : ℕ) → B i → B' i) → ((i : ℕ) → W i → W' i) → InRounds w n B W → InRounds w n B' W'
rounds_any Once n B B' W W' b v h = (b 0 h.0, v n h.1)
rounds_any EachDay n B B' W W' b v h = λ i l. (b i (h i l).0, v (suc i) (h i l).1)

abbrev NodeAny : Declarations → (Date → ℤ) → (Date → ℤ) → (List Range → Part → Type 0) → Type 0
NodeAny d day more P =
    (v : ValueExpression) (g : List Range) → P g (OfExpression (dated_by day v)) → P g (OfExpression (dated_by more v))

after_any : (d : Declarations) (day more : Date → ℤ) (body first : ValueExpression) (i : ℕ) (g : List Range) → range_after d (dated_by day body) i (dated_by day first) g ≡ range_after d (dated_by more body) i (dated_by more first) g
after_any d day more body first i g =
    ap₂ (λ (v : Interval) (k : Kind). record { interval = v; kind = k }) (interval_any d day more (Acc body i first) g) (ap kind_or (kind_any d day more first (range_kinds g)))

each_any : (d : Declarations) (day more : Date → ℤ) (P : List Range → Part → Type 0) → NodeAny d day more P → (w : Trial) (v : ValueExpression) (g : List Range) → EachNode P w d (dated_by day v) g → EachNode P w d (dated_by more v) g
each_any d day more P node w (Lit m s) g h = node (Lit m s) g h
each_any d day more P node w (Yes b) g h = node (Yes b) g h
each_any d day more P node w (Var back) g h = node (Var back) g h
each_any d day more P node w (Model l x) g h = node (Model l x) g h
each_any d day more P node w (Neg e) g h = (each_any d day more P node w e g h.0, node (Neg e) g h.1)
each_any d day more P node w (Num op a b) g h = (each_any d day more P node w a g h.0, each_any d day more P node w b g h.1, node (Num op a b) g h.2)
each_any d day more P node w (Cmp op a b) g h = (each_any d day more P node w a g h.0, each_any d day more P node w b g h.1, node (Cmp op a b) g h.2)
each_any d day more P node w (Not e) g h = (each_any d day more P node w e g h.0, node (Not e) g h.1)
each_any d day more P node w (Logic op a b) g h = (each_any d day more P node w a g h.0, each_any d day more P node w b g h.1, node (Logic op a b) g h.2)
each_any d day more P node w (Cond t a b) g h =
    (each_any d day more P node w t g h.0, each_any d day more P node w a g h.1, each_any d day more P node w b g h.2, node (Cond t a b) g h.3)
each_any d day more P node w (Widen s e) g h = (each_any d day more P node w e g h.0, node (Widen s e) g h.1)
each_any d day more P node w (Round mode s e) g h = (each_any d day more P node w e g h.0, node (Round mode s e) g h.1)
each_any d day more P node w (Div mode s a b) g h = (each_any d day more P node w a g h.0, each_any d day more P node w b g h.1, node (Div mode s a b) g h.2)
each_any d day more P node w (Acc body n first) g h = (
  each_any d day more P node w first g h.0,
  rounds_any w n (λ i. EachNode P w d (dated_by day body) (range_after d (dated_by day body) i (dated_by day first) g ∷ g)) (λ i. EachNode P w d (dated_by more body) (range_after d (dated_by more body) i (dated_by more first) g ∷ g)) (λ i. P g (OfExpression (dated_by day (Acc body i first)))) (λ i. P g (OfExpression (dated_by more (Acc body i first))))
      (λ i b. subst (λ (r : Range). EachNode P w d (dated_by more body) (r ∷ g)) (after_any d day more body first i g) (each_any d day more P node w body (range_after d (dated_by day body) i (dated_by day first) g ∷ g) b))
      (λ i b. node (Acc body i first) g b) h.1,
)

same_test : (a b : Bool) → a ≡ b → IsTrue a → IsTrue b
same_test a b e h = subst (λ (t : Bool). IsTrue t) e h

sort_any : (d : Declarations) (day more : Date → ℤ) → NodeAny d day more (IsSortedPart d)
sort_any d day more v g h = same_test _ _ (ap (λ (o : Option Kind). is_some o) (kind_any d day more v (range_kinds g))) h

parts_any : (d : Declarations) (day more : Date → ℤ) (v : ValueExpression) (ks : List Kind) → has_scaled_parts d ks (dated_by day v) ≡ has_scaled_parts d ks (dated_by more v)
parts_any d day more (Lit m s) ks = refl
parts_any d day more (Yes b) ks = refl
parts_any d day more (Var back) ks = refl
parts_any d day more (Model l x) ks = refl
parts_any d day more (Neg e) ks = refl
parts_any d day more (Num op a b) ks = refl
parts_any d day more (Cmp op a b) ks = refl
parts_any d day more (Not e) ks = refl
parts_any d day more (Logic op a b) ks = refl
parts_any d day more (Cond t a b) ks = refl
parts_any d day more (Widen s e) ks = ap (λ (i : ℕ). nat_le i s) (scale_any d day more e ks)
parts_any d day more (Round mode s e) ks = refl
parts_any d day more (Div mode s a b) ks = refl
parts_any d day more (Acc body n first) ks =
    ap₂ nat_le (ap (λ (o : Option Kind). scale_of d (dated_by day body) (kind_or o ∷ ks)) (kind_any d day more first ks) ∙ scale_any d day more body (kind_or (kind_of d (dated_by more first) ks) ∷ ks)) (scale_any d day more first ks)

scale_part_any : (d : Declarations) (day more : Date → ℤ) → NodeAny d day more (IsScaledPart d)
scale_part_any d day more v g h =
    same_test _ _ (ap₂ (λ (n : ℕ) (t : Bool). nat_le n greatest_scale && t) (scale_any d day more v (range_kinds g)) (parts_any d day more v (range_kinds g))) h

operands_any : (d : Declarations) (day more : Date → ℤ) (v : ValueExpression) (g : List Range) → operands_fit d g (dated_by day v) ≡ operands_fit d g (dated_by more v)
operands_any d day more (Lit m s) g = refl
operands_any d day more (Yes b) g = refl
operands_any d day more (Var back) g = refl
operands_any d day more (Model l x) g = refl
operands_any d day more (Neg e) g = refl
operands_any d day more (Num op a b) g =
    two_intervals (fit_operands op) _ _ _ _ _ _ _ _ (scale_any d day more a (range_kinds g)) (interval_any d day more a g) (scale_any d day more b (range_kinds g)) (interval_any d day more b g)
operands_any d day more (Cmp op a b) g =
    two_intervals fit_aligned _ _ _ _ _ _ _ _ (scale_any d day more a (range_kinds g)) (interval_any d day more a g) (scale_any d day more b (range_kinds g)) (interval_any d day more b g)
operands_any d day more (Not e) g = refl
operands_any d day more (Logic op a b) g = refl
operands_any d day more (Cond t a b) g =
    two_intervals fit_aligned _ _ _ _ _ _ _ _ (scale_any d day more a (range_kinds g)) (interval_any d day more a g) (scale_any d day more b (range_kinds g)) (interval_any d day more b g)
operands_any d day more (Widen s e) g = refl
operands_any d day more (Round mode s e) g = refl
operands_any d day more (Div mode s a b) g =
    two_intervals (λ i v j w. fit_divided i v j w s) _ _ _ _ _ _ _ _ (scale_any d day more a (range_kinds g)) (interval_any d day more a g) (scale_any d day more b (range_kinds g)) (interval_any d day more b g)
operands_any d day more (Acc body n first) g = refl

bound_any : (d : Declarations) (day more : Date → ℤ) → NodeAny d day more (IsBoundedPart d)
bound_any d day more v g h =
    same_test _ _ (ap₂ (λ (t : Bool) (i : Interval). t && fits i) (operands_any d day more v g) (interval_any d day more v g)) h

-- ---- from sites to structure

pub code-left : (Q : CodeSite → Type 0) (xs ys : List CodeSite) → AllPassInCode Q (xs ++ ys) → AllPassInCode Q xs
code-left Q [] ys h = tt
code-left Q (x ∷ xs) ys h = (h.0, code-left Q xs ys h.1)

pub code-right : (Q : CodeSite → Type 0) (xs ys : List CodeSite) → AllPassInCode Q (xs ++ ys) → AllPassInCode Q ys
code-right Q [] ys h = h
code-right Q (x ∷ xs) ys h = code-right Q xs ys h.1

pub from_map : (Q : CodeSite → Type 0) (xs : List Site) → AllPassInCode Q (map (λ s. InValue s) xs) → AllPass (λ s. Q (InValue s)) xs
from_map Q [] h = tt
from_map Q (x ∷ xs) h = (h.0, from_map Q xs h.1)

-- each value expression of code, with what stands round it
abbrev EachValue : (List Layer → ValueExpression → Type 0) → PayoffCode → List Layer → Type 0
EachValue R Nothing r = Unit {0}
EachValue R (PayOn x a p q) r = Unit {0}
EachValue R (Add k l) r = EachValue R k r × EachValue R l r
EachValue R (ScaleBy v k) r = R r v × EachValue R k r
EachValue R (LetBe v k) r = R r v × EachValue R k (Naming (undated v) ∷ r)
EachValue R (Loop v x k l) r = R r v × EachValue R k r × EachValue R l r
EachValue R (Cut x k) r = EachValue R k r

each_value : (Q : CodeSite → Type 0) (w : Trial) (R : List Layer → ValueExpression → Type 0) → ((r : List Layer) (v : ValueExpression) (n : ℕ) → AllPass (λ s. Q (InValue s)) (sites_of w (undated v) r n) → R r v) → (k : PayoffCode) (r : List Layer) (n : ℕ) → AllPassInCode Q (sites_of_code w (λ _. pos 0) k r n) → EachValue R k r
each_value Q w R here Nothing r n h = tt
each_value Q w R here (PayOn x a p q) r n h = tt
each_value Q w R here (Add k l) r n h =
    let first = sites_of_code w (λ _. pos 0) k r (n + 1) in
    (each_value Q w R here k r _ (code-left Q first _ h), each_value Q w R here l r _ (code-left Q (sites_of_code w (λ _. pos 0) l r _) _ (code-right Q first _ h)))
each_value Q w R here (ScaleBy v k) r n h =
    let first = value_sites w r (n + 1) (undated v) in
    (here r v (n + 1) (from_map Q (sites_of w (undated v) r (n + 1)) (code-left Q first _ h)), each_value Q w R here k r _ (code-left Q (sites_of_code w (λ _. pos 0) k r _) _ (code-right Q first _ h)))
each_value Q w R here (LetBe v k) r n h =
    let first = value_sites w r (n + 1) (undated v) in
    (here r v (n + 1) (from_map Q (sites_of w (undated v) r (n + 1)) (code-left Q first _ h)), each_value Q w R here k (Naming (undated v) ∷ r) _ (code-left Q (sites_of_code w (λ _. pos 0) k (Naming (undated v) ∷ r) _) _ (code-right Q first _ h)))
each_value Q w R here (Loop v x k l) r n h =
    let first = value_sites w r (n + 1) (undated v) in
    let rest = code-right Q first _ h in
    (here r v (n + 1) (from_map Q (sites_of w (undated v) r (n + 1)) (code-left Q first _ h)), each_value Q w R here k r _ (code-left Q (sites_of_code w (λ _. pos 0) k r _) _ rest), each_value Q w R here l r _ (code-left Q (sites_of_code w (λ _. pos 0) l r _) _ (code-right Q (sites_of_code w (λ _. pos 0) k r _) _ rest)))
each_value Q w R here (Cut x k) r n h = each_value Q w R here k r _ (code-left Q (sites_of_code w (λ _. pos 0) k r (n + 1)) _ h)

together : (d : Declarations) (xs : List ℕ) (k : PayoffCode) (r : List Layer)
    → EachValue (λ r v. EachNode (IsSortedPart d) Once d (at_setting xs v) (ranges_round d r)) k r
    → EachValue (λ r v. EachNode (IsScaledPart d) Once d (at_setting xs v) (ranges_round d r)) k r
    → EachValue (λ r v. EachNode (IsBoundedPart d) EachDay d (at_setting xs v) (ranges_round d r)) k r
    → CodeMeetsRules d xs k (ranges_round d r)
together d xs Nothing r a b c = tt
together d xs (PayOn x u p q) r a b c = tt
together d xs (Add k l) r a b c = (together d xs k r a.0 b.0 c.0, together d xs l r a.1 b.1 c.1)
together d xs (ScaleBy v k) r a b c = (record { sorts = a.0; scales = b.0; bounds = c.0 }, together d xs k r a.1 b.1 c.1)
together d xs (LetBe v k) r a b c = (record { sorts = a.0; scales = b.0; bounds = c.0 }, together d xs k (Naming (undated v) ∷ r) a.1 b.1 c.1)
together d xs (Loop v x k l) r a b c = (record { sorts = a.0; scales = b.0; bounds = c.0 }, together d xs k r a.1 b.1 c.1, together d xs l r a.2 b.2 c.2)
together d xs (Cut x k) r a b c = together d xs k r a b c

pub accepted_code_meets : (d : Declarations) (xs : List ℕ) (k : PayoffCode) → IsAcceptedCode d xs k → CodeMeetsRules d xs k []
accepted_code_meets d xs k h =
    together d xs k []
    (each_value (λ s. IsTrue (code_is_sorted d s)) Once (λ r v. EachNode (IsSortedPart d) Once d (at_setting xs v) (ranges_round d r)) (λ r v n a. each_any d (λ _. pos 0) (day_of xs) (IsSortedPart d) (sort_any d (λ _. pos 0) (day_of xs)) Once v (ranges_round d r) (nodes_hold d (λ s. IsTrue (is_sorted d s)) (IsSortedPart d) (λ j l part p. same_test _ _ (sorted_is d j l part) p) Once (undated v) r n a)) k [] 0 h.sorts)
    (each_value (λ s. IsTrue (code_is_scaled d s)) Once (λ r v. EachNode (IsScaledPart d) Once d (at_setting xs v) (ranges_round d r)) (λ r v n a. each_any d (λ _. pos 0) (day_of xs) (IsScaledPart d) (scale_part_any d (λ _. pos 0) (day_of xs)) Once v (ranges_round d r) (nodes_hold d (λ s. IsTrue (is_scaled d s)) (IsScaledPart d) (λ j l part p. same_test _ _ (scaled_is d j l part) p) Once (undated v) r n a)) k [] 0 h.scales)
    (each_value (λ s. IsTrue (code_is_bounded d s)) EachDay (λ r v. EachNode (IsBoundedPart d) EachDay d (at_setting xs v) (ranges_round d r)) (λ r v n a. each_any d (λ _. pos 0) (day_of xs) (IsBoundedPart d) (bound_any d (λ _. pos 0) (day_of xs)) EachDay v (ranges_round d r) (nodes_hold d (λ s. IsTrue (is_bounded d s)) (IsBoundedPart d) (λ j l part p. p) EachDay (undated v) r n a)) k [] 0 h.bounds)
