-- The trial of the rule on scales of code whose sorts are right finds the first node that breaks
-- it, and else the scale.
use Rattle.std.proofs.Common.{◌≡◌, ℕ, pos, ◌+◌, max, nat_le, Bool, List, [], ◌∷◌, map, Option}
use Rattle.std.proofs.Common.{Result, Ok, Err, IsTrue, refl, ap, ap₂, sym, ◌∙◌}
use Rattle.term_model.specs.Declarations.{Declarations}
use Rattle.term_model.specs.declared.values.Kind.{Kind}
use Rattle.term_model.specs.declared.rules.Rule.TheVariants.{Sort as SortRule, Scale as ScaleRule}
use Rattle.term_model.specs.Kinds.{kind_of, scale_of_kind}
use Rattle.term_model.specs.Values.{kind_or}
use Rattle.term_model.specs.Sizes.{nodes}
use Rattle.term_model.specs.Sites.{Layer, Site, Once, sites_of, kinds_round}
use Rattle.term_core.specs.Trying.{then_do, moved}
use Rattle.scale_check.specs.ScaleTrials.{scale_tried}
use Rattle.scale_check.proofs.Finding as found
use Rattle.scale_check.proofs.SortedKinds.{kind_sorted}
use Rattle.scale_check.proofs.ExprScaleFacts.{IsScale, scales_round, scale_finds}
use Rattle.payoff_terms.specs.Dating.{undated}
use Rattle.payoff_terms.specs.Code.{ValueExpression, PayoffCode, Nothing, PayOn, Add, ScaleBy, LetBe}
use Rattle.payoff_terms.specs.Code.{Loop, Cut}
use Rattle.payoff_terms.specs.CodeValues.{scale_of_code}
use Rattle.payoff_terms.specs.CodeSites.{CodeSite, InValue, AtCode, sites_of_code}
use Rattle.payoff_terms.specs.CodeAcceptance.{code_is_sorted, code_is_scaled, MeetsInCode}
use Rattle.payoff_terms.specs.CodeAcceptance.{FailsInCode}
use Rattle.payoff_check.specs.declared.scale_rule.Scaled.{Scaled}
use Rattle.payoff_check.specs.ScaleTrials.{value_tried, kept, scaling, scales_tried}
use Rattle.payoff_check.proofs.Finding.{Finds, first_failing-map, here, Follows, code_finds, meets}
use Rattle.payoff_check.proofs.Finding.{fails}
use Rattle.payoff_check.proofs.Passing.{PassesInValue, each_passes}
use Rattle.interval_check.proofs.NodeTests.{scale_of_some}

-- the scale that is found of a value expression is that of its kind
abbrev pub IsValueScale : Declarations → ValueExpression → List Layer → Scaled → Type 0
IsValueScale d v r u = u.scale ≡ scale_of_kind (kind_or (kind_of d (undated v) (kinds_round d r)))

abbrev pub IsCodeScale : Declarations → PayoffCode → List Layer → Scaled → Type 0
IsCodeScale d k r a = a.scale ≡ scale_of_code d k (kinds_round d r)

abbrev pub IsSortedValue : Declarations → ValueExpression → List Layer → ℕ → Type 0
IsSortedValue d v r n = PassesInValue (λ s. IsTrue (code_is_sorted d s)) Once (λ _. pos 0) v r n

abbrev pub IsSortedNode : Declarations → PayoffCode → List Layer → ℕ → Type 0
IsSortedNode d k r n = IsTrue (code_is_sorted d (AtCode n k r))

value_found :
    (p : CodeSite → Bool) (xs : List Site) (n m i : ℕ) (x : Kind) (a : Result ℕ ℕ)
    → scale_of_kind x ≡ i → found.Finds (λ s. p (InValue s)) xs n (IsScale x) a
    → Finds p (map (λ s. InValue s) xs) (λ (u : Scaled). u.scale ≡ i)
    (then_do (moved n a) (λ s. Ok (record { scale = s; nodes = m })))
value_found p xs n m i x (Ok s) e h = (first_failing-map p xs ∙ h.0, h.1.same ∙ e)
value_found p xs n m i x (Err j) e h = first_failing-map p xs ∙ h

value_scale :
    (d : Declarations) (v : ValueExpression) (r : List Layer) (n : ℕ) → IsSortedValue d v r n
    → Finds (code_is_scaled d) (map (λ s. InValue s) (sites_of Once (undated v) r n))
    (λ (u : Scaled). IsValueScale d v r u) (value_tried d (undated v) (scales_round d r) n)
value_scale d v r n h =
    let e = undated v in
    let x = kind_sorted d e r n h in
    let same : scale_of_kind x.kind ≡ scale_of_kind (kind_or (kind_of d e (kinds_round d r))) =
    ap (λ (o : Option Kind). scale_of_kind (kind_or o)) (sym x.has) in
    value_found (code_is_scaled d) (sites_of Once e r n) n (nodes e)
    (scale_of_kind (kind_or (kind_of d e (kinds_round d r)))) x.kind
    (scale_tried d e (scales_round d r)) same (scale_finds d e r n x.kind x.has)

node :
    (d : Declarations) (k : PayoffCode) (r : List Layer) (n s count : ℕ)
    → s ≡ scale_of_code d k (kinds_round d r)
    → Finds (code_is_scaled d) (AtCode n k r ∷ []) (λ (a : Scaled). IsCodeScale d k r a)
    (kept (d.amounts + 9) s count n)
node d k r n s count h =
    here (code_is_scaled d) (AtCode n k r) (λ (a : Scaled). IsCodeScale d k r a)
    (nat_le s (d.amounts + 9)) (record { scale = s; nodes = count })
    (ap (λ (i : ℕ). nat_le i (d.amounts + 9)) (sym h)) (λ _. h)

scale_follows :
    (d : Declarations)
    → Follows (scaling d) Once (λ _. pos 0) (code_is_scaled d) (λ r. scales_round d r)
    (λ v r u. IsValueScale d v r u) (λ k r a. IsCodeScale d k r a)
    (λ v r n. IsSortedValue d v r n) (λ k r n. IsSortedNode d k r n)
scale_follows d = record {
  values = λ v r n h. value_scale d v r n h;
  enters = λ v r u h. ap (λ (s : ℕ). s ∷ scales_round d r) h;
  nothings = λ r n _. node d Nothing r n 0 1 refl;
  payments = λ x a b c r n _. node d (PayOn x a b c) r n 9 1 refl;
  sums = λ k l r n a b ha hb _. node d (Add k l) r n (max a.scale b.scale) (a.nodes + b.nodes + 1)
      (ap₂ max ha hb);
  factors = λ v k r n u a hu ha _. node d (ScaleBy v k) r n (u.scale + a.scale)
      (u.nodes + a.nodes + 1) (ap₂ (λ (i j : ℕ). i + j)
      (hu ∙ scale_of_some (kind_of d (undated v) (kinds_round d r))) ha);
  binders = λ v k r n u a _ ha _. node d (LetBe v k) r n a.scale (u.nodes + a.nodes + 1) ha;
  loops = λ v x k l r n u a b _ ha hb _. node d (Loop v x k l) r n (max a.scale b.scale)
      (u.nodes + a.nodes + b.nodes + 1) (ap₂ max ha hb);
  cuts = λ x k r n a ha _. node d (Cut x k) r n a.scale (a.nodes + 1) ha;
}

scales_find :
    (d : Declarations) (xs : List ℕ) (k : PayoffCode) → MeetsInCode d xs SortRule k
    → Finds (code_is_scaled d) (sites_of_code Once (λ _. pos 0) k [] 0)
    (λ (a : Scaled). IsCodeScale d k [] a) (scales_tried d k [] 0)
scales_find d xs k h =
    code_finds (scaling d) Once (λ _. pos 0) (code_is_scaled d) (λ r. scales_round d r)
    (λ v r u. IsValueScale d v r u) (λ c r a. IsCodeScale d c r a)
    (λ v r n. IsSortedValue d v r n) (λ c r n. IsSortedNode d c r n) (scale_follows d) k [] 0
    (each_passes (λ s. IsTrue (code_is_sorted d s)) Once (λ _. pos 0) k [] 0 h)

pub scales_meet :
    (d : Declarations) (xs : List ℕ) (k : PayoffCode) (a : Scaled) → MeetsInCode d xs SortRule k
    → scales_tried d k [] 0 ≡ Ok a → MeetsInCode d xs ScaleRule k × (a.scale ≡ scale_of_code d k [])
scales_meet d xs k a h e =
    meets (code_is_scaled d) (sites_of_code Once (λ _. pos 0) k [] 0)
    (λ (b : Scaled). IsCodeScale d k [] b) (scales_tried d k [] 0) a (scales_find d xs k h) e

pub scales_fail :
    (d : Declarations) (xs : List ℕ) (k : PayoffCode) (j : ℕ) → MeetsInCode d xs SortRule k
    → scales_tried d k [] 0 ≡ Err j → FailsInCode d xs ScaleRule k j
scales_fail d xs k j h e =
    fails (code_is_scaled d) (sites_of_code Once (λ _. pos 0) k [] 0)
    (λ (b : Scaled). IsCodeScale d k [] b) (scales_tried d k [] 0) j (scales_find d xs k h) e
