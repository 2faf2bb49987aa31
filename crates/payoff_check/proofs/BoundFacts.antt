-- The trial of the rule on bounds of code whose sorts and scales are right finds the first node
-- that breaks it, and else the total.
use Rattle.std.proofs.Common.{◌≡◌, ℕ, pos, ◌+◌, ◌-◌, ◌*◌, ◌^◌, max, nat_le, ◌&&◌, Bool, true, false}
use Rattle.std.proofs.Common.{if◌then◌else◌, List, [], ◌∷◌, map, Option, Some, Result, Ok, Err}
use Rattle.std.proofs.Common.{IsTrue, refl, ap, ap₂, sym, subst, ◌∙◌}
use Rattle.term_model.specs.Declarations.{Declarations}
use Rattle.term_model.specs.declared.values.Kind.{Kind}
use Rattle.term_model.specs.declared.rules.Rule.TheVariants.{Sort as SortRule, Scale as ScaleRule}
use Rattle.term_model.specs.declared.rules.Rule.TheVariants.{Bound as BoundRule}
use Rattle.term_model.specs.Kinds.{kind_of}
use Rattle.term_model.specs.Values.{kind_or}
use Rattle.term_model.specs.Limits.{greatest_mantissa}
use Rattle.term_model.specs.Sizes.{nodes}
use Rattle.term_model.specs.Sites.{Layer, Naming, Site, Once, EachDay, sites_of, kinds_round}
use Rattle.term_model.specs.Bounds.{Range, range_kinds, ranges_round, greatest_size}
use Rattle.term_core.specs.Trying.{then_do, moved}
use Rattle.scale_check.proofs.SortedKinds.{kind_sorted}
use Rattle.interval_check.specs.RangeTrials.{range_tried, kind_found, scale_in, AreScaled}
use Rattle.interval_check.proofs.KindsFound.{has_kind}
use Rattle.interval_check.proofs.RootFacts.{Has}
use Rattle.interval_check.proofs.ScaledFacts.{scales_follow}
use Rattle.interval_check.proofs.TotalFacts.{finds_range}
use Rattle.term_model.specs.Bounds.{range_of as right_range}
use Rattle.interval_check.proofs.TotalFacts as found
use Rattle.payoff_terms.specs.Dating.{undated}
use Rattle.payoff_terms.specs.Code.{ValueExpression, PayoffCode, Nothing, PayOn, Add, ScaleBy, LetBe}
use Rattle.payoff_terms.specs.Code.{Loop, Cut}
use Rattle.payoff_terms.specs.CodeValues.{scale_of_code}
use Rattle.payoff_terms.specs.CodeSizes.{nodes_of_code}
use Rattle.payoff_terms.specs.CodeTotals.{total_of_code}
use Rattle.payoff_terms.specs.CodeSites.{CodeSite, InValue, AtCode, number_of, sites_of_code}
use Rattle.payoff_terms.specs.CodeAcceptance.{code_is_sorted, code_is_scaled, code_is_bounded}
use Rattle.payoff_terms.specs.CodeAcceptance.{MeetsInCode, FailsInCode}
use Rattle.payoff_check.specs.declared.totals.CodeTotal.{CodeTotal}
use Rattle.payoff_check.specs.BoundTrials.{Found, value_tried, total_fits, total_here, of_nothing}
use Rattle.payoff_check.specs.BoundTrials.{of_payment, of_sum, of_product, of_branches, of_part}
use Rattle.payoff_check.specs.BoundTrials.{bounding, bounds_tried, AreValuesScaled}
use Rattle.payoff_check.proofs.Finding.{Finds, first_failing-map, fine, faulty, EachNode, Follows}
use Rattle.payoff_check.proofs.Finding.{code_finds, meets, fails}
use Rattle.payoff_check.proofs.Passing.{PassesInValue, each_passes, each_of_two}
use Rattle.payoff_check.proofs.ScaleFacts.{IsSortedValue, IsSortedNode}
use Rattle.interval_check.proofs.NodeTests.{scale_of_some as kind_scale}
use Rattle.interval_check.proofs.RuleFacts.{kinds_of_ranges}

-- What the rules on sorts and scales tell.

abbrev pub IsScaledValue : Declarations → ValueExpression → List Layer → ℕ → Type 0
IsScaledValue d v r n = PassesInValue (λ s. IsTrue (code_is_scaled d s)) Once (λ _. pos 0) v r n

abbrev pub IsScaledNode : Declarations → PayoffCode → List Layer → ℕ → Type 0
IsScaledNode d k r n = IsTrue (code_is_scaled d (AtCode n k r))

value_scaled :
    (d : Declarations) (v : ValueExpression) (r : List Layer) (n : ℕ) → IsSortedValue d v r n
    → IsScaledValue d v r n → AreScaled d (undated v) (kinds_round d r)
value_scaled d v r n h i =
    let x = kind_sorted d (undated v) r n h in
    scales_follow d (undated v) r n x.kind x.has i

-- the kind that is found is that of the model
kind_there :
    (d : Declarations) (v : ValueExpression) (r : List Layer) (n : ℕ) → IsSortedValue d v r n
    → kind_or (kind_of d (undated v) (kinds_round d r)) ≡ kind_found d (undated v) (kinds_round d r)
kind_there d v r n h =
    let x = kind_sorted d (undated v) r n h in
    ap (λ (o : Option Kind). kind_or o) x.has
    ∙ sym (has_kind d (undated v) (kinds_round d r) x.kind x.has)

values_scaled :
    (d : Declarations) (k : PayoffCode) (r : List Layer) (n : ℕ)
    → EachNode (λ v l m. IsSortedValue d v l m) (λ c l m. IsSortedNode d c l m) k r n
    → EachNode (λ v l m. IsScaledValue d v l m) (λ c l m. IsScaledNode d c l m) k r n
    → AreValuesScaled d k (kinds_round d r)
values_scaled d Nothing r n h i = tt
values_scaled d (PayOn x a p q) r n h i = tt
values_scaled d (Add k l) r n h i =
    (values_scaled d k r (n + 1) h.0 i.0, values_scaled d l r (n + 1 + nodes_of_code k) h.1 i.1)
values_scaled d (ScaleBy v k) r n h i =
    (value_scaled d v r (n + 1) h.0 i.0, values_scaled d k r (n + 1 + nodes (undated v)) h.1 i.1)
values_scaled d (LetBe v k) r n h i = (
  value_scaled d v r (n + 1) h.0 i.0,
  subst (λ (j : Kind). AreValuesScaled d k (j ∷ kinds_round d r)) (kind_there d v r (n + 1) h.0)
      (values_scaled d k (Naming (undated v) ∷ r) (n + 1 + nodes (undated v)) h.1 i.1),
)
values_scaled d (Loop v x k l) r n h i = (
  value_scaled d v r (n + 1) h.0 i.0,
  values_scaled d k r (n + 1 + nodes (undated v)) h.1 i.1,
  values_scaled d l r (n + 1 + nodes (undated v) + nodes_of_code k) h.2 i.2,
)
values_scaled d (Cut x k) r n h i = values_scaled d k r (n + 1) h.0 i.0

sorted_nodes :
    (d : Declarations) (xs : List ℕ) (k : PayoffCode) → MeetsInCode d xs SortRule k
    → EachNode (λ v l m. IsSortedValue d v l m) (λ c l m. IsSortedNode d c l m) k [] 0
sorted_nodes d xs k h = each_passes (λ s. IsTrue (code_is_sorted d s)) Once (λ _. pos 0) k [] 0 h

scaled_nodes :
    (d : Declarations) (xs : List ℕ) (k : PayoffCode) → MeetsInCode d xs ScaleRule k
    → EachNode (λ v l m. IsScaledValue d v l m) (λ c l m. IsScaledNode d c l m) k [] 0
scaled_nodes d xs k h = each_passes (λ s. IsTrue (code_is_scaled d s)) Once (λ _. pos 0) k [] 0 h

pub are_values_scaled :
    (d : Declarations) (xs : List ℕ) (k : PayoffCode) → MeetsInCode d xs SortRule k
    → MeetsInCode d xs ScaleRule k → AreValuesScaled d k []
are_values_scaled d xs k h i =
    values_scaled d k [] 0 (sorted_nodes d xs k h) (scaled_nodes d xs k i)

-- Value expressions.

value_found :
    (p : CodeSite → Bool) (xs : List Site) (n m : ℕ) (x : Range) (a : Result Range ℕ)
    → found.Finds (λ s. p (InValue s)) xs n x (λ _. Unit {0}) a
    → Finds p (map (λ s. InValue s) xs) (λ (u : Found). u.range ≡ x)
    (then_do (moved n a) (λ s. Ok (record { range = s; nodes = m })))
value_found p xs n m x (Ok s) h = (first_failing-map p xs ∙ h.0, h.1)
value_found p xs n m x (Err j) h = first_failing-map p xs ∙ h

abbrev pub IsValueRange : Declarations → ValueExpression → List Layer → Found → Type 0
IsValueRange d v r u = u.range ≡ right_range d (undated v) (ranges_round d r)

value_range :
    (d : Declarations) (v : ValueExpression) (r : List Layer) (n : ℕ) → IsSortedValue d v r n
    → Finds (code_is_bounded d) (map (λ s. InValue s) (sites_of EachDay (undated v) r n))
    (λ (u : Found). IsValueRange d v r u) (value_tried d (undated v) (ranges_round d r) n)
value_range d v r n h =
    let e = undated v in
    let g = ranges_round d r in
    let x = kind_sorted d e r n h in
    let has : Has d e (range_kinds g) =
    record {
      kind = x.kind;
      is = subst (λ (ks : List Kind). kind_of d e ks ≡ Some x.kind) (kinds_of_ranges d r) x.has;
    } in
    value_found (code_is_bounded d) (sites_of EachDay e r n) n (nodes e) (right_range d e g)
    (range_tried d e g) (finds_range d e r n has)

-- Code.

abbrev pub IsCodeTotal : Declarations → PayoffCode → List Layer → CodeTotal → Type 0
IsCodeTotal d k r a =
    (a.amount ≡ total_of_code d k (ranges_round d r))
    × (a.scale ≡ scale_of_code d k (range_kinds (ranges_round d r)))

-- the test of a node, by the total that is found
node_test :
    (d : Declarations) (k : PayoffCode) (r : List Layer) (n : ℕ) (t : CodeTotal)
    → IsCodeTotal d k r t → code_is_bounded d (AtCode n k r) ≡ total_fits (d.amounts + 9) t
node_test d k r n t h =
    sym (ap₂ (λ (a s : ℕ). nat_le a greatest_mantissa && nat_le (a * 10 ^ (d.amounts + 9 - s))
    greatest_mantissa) h.0 h.1)

found_here :
    (p : CodeSite → Bool) (s : CodeSite) (S : CodeTotal → Type 0) (b c : Bool) (t : CodeTotal)
    → b ≡ true → p s ≡ c → S t
    → Finds p (s ∷ []) S (if b then (if c then Ok t else Err (number_of s)) else Err (number_of s))
found_here p s S true true t e f h = fine p s S t f h
found_here p s S true false t e f h = faulty p s S f
found_here p s S false c t e f h = absurd (cc)

scale_there :
    (d : Declarations) (k : PayoffCode) (r : List Layer) (n : ℕ) (t : CodeTotal)
    → IsCodeTotal d k r t → IsScaledNode d k r n → nat_le t.scale (d.amounts + 9) ≡ true
scale_there d k r n t h i =
    ap (λ (s : ℕ). nat_le s (d.amounts + 9))
    (h.1 ∙ ap (λ (ks : List Kind). scale_of_code d k ks) (sym (kinds_of_ranges d r))) ∙ i

node :
    (d : Declarations) (k : PayoffCode) (r : List Layer) (n : ℕ) (t : CodeTotal)
    → IsCodeTotal d k r t → IsScaledNode d k r n
    → Finds (code_is_bounded d) (AtCode n k r ∷ []) (λ (a : CodeTotal). IsCodeTotal d k r a)
    (total_here (d.amounts + 9) t n)
node d k r n t h i =
    found_here (code_is_bounded d) (AtCode n k r) (λ (a : CodeTotal). IsCodeTotal d k r a)
    (nat_le t.scale (d.amounts + 9)) (total_fits (d.amounts + 9) t) t
    (scale_there d k r n t h i) (node_test d k r n t h) h

-- the amounts of two parts at the greater of their scales
both :
    (f : ℕ → ℕ → ℕ) (a b a' b' s t s' t' : ℕ) → a ≡ a' → s ≡ s' → b ≡ b' → t ≡ t'
    → f (a * 10 ^ (max s t - s)) (b * 10 ^ (max s t - t))
    ≡ f (a' * 10 ^ (max s' t' - s')) (b' * 10 ^ (max s' t' - t'))
both f a b a' b' s t s' t' ha hs hb ht =
    ap₂ (λ (x y : ℕ). f (x * 10 ^ (max s t - s)) (y * 10 ^ (max s t - t))) ha hb
    ∙ ap₂ (λ (x y : ℕ). f (a' * 10 ^ (max x y - x)) (b' * 10 ^ (max x y - y))) hs ht

product :
    (d : Declarations) (v : ValueExpression) (k : PayoffCode) (r : List Layer) (u : Found)
    (a : CodeTotal) → IsValueRange d v r u → IsCodeTotal d k r a
    → IsCodeTotal d (ScaleBy v k) r (of_product u a)
product d v k r u a hu ha = (
  ap₂ (λ (x : ℕ) (y : Range). x * greatest_size y.interval) ha.0 hu,
  ap₂ (λ (x : Range) (s : ℕ). scale_in x + s) hu ha.1
      ∙ ap (λ (s : ℕ). s + scale_of_code d k (range_kinds (ranges_round d r)))
      (kind_scale (kind_of d (undated v) (range_kinds (ranges_round d r)))),
)

bound_follows :
    (d : Declarations)
    → Follows (bounding d) EachDay (λ _. pos 0) (code_is_bounded d) (λ r. ranges_round d r)
    (λ v r u. IsValueRange d v r u) (λ k r a. IsCodeTotal d k r a)
    (λ v r n. IsSortedValue d v r n) (λ k r n. IsScaledNode d k r n)
bound_follows d = record {
  values = λ v r n h. value_range d v r n h;
  enters = λ v r u h. ap (λ (x : Range). x ∷ ranges_round d r) h;
  nothings = λ r n q. node d Nothing r n of_nothing (refl, refl) q;
  payments = λ x a b c r n q. node d (PayOn x a b c) r n of_payment (refl, refl) q;
  sums = λ k l r n a b ha hb q. node d (Add k l) r n (of_sum a b)
      (both (λ x y. x + y) _ _ _ _ _ _ _ _ ha.0 ha.1 hb.0 hb.1, ap₂ max ha.1 hb.1) q;
  factors = λ v k r n u a hu ha q. node d (ScaleBy v k) r n (of_product u a)
      (product d v k r u a hu ha) q;
  binders = λ v k r n u a _ ha q. node d (LetBe v k) r n (of_part u.nodes a) ha q;
  loops = λ v x k l r n u a b _ ha hb q. node d (Loop v x k l) r n (of_branches u.nodes a b)
      (both max _ _ _ _ _ _ _ _ ha.0 ha.1 hb.0 hb.1, ap₂ max ha.1 hb.1) q;
  cuts = λ x k r n a ha q. node d (Cut x k) r n (of_part 0 a) ha q;
}

bounds_find :
    (d : Declarations) (xs : List ℕ) (k : PayoffCode) → MeetsInCode d xs SortRule k
    → MeetsInCode d xs ScaleRule k
    → Finds (code_is_bounded d) (sites_of_code EachDay (λ _. pos 0) k [] 0)
    (λ (a : CodeTotal). IsCodeTotal d k [] a) (bounds_tried d k [] 0)
bounds_find d xs k h i =
    code_finds (bounding d) EachDay (λ _. pos 0) (code_is_bounded d) (λ r. ranges_round d r)
    (λ v r u. IsValueRange d v r u) (λ c r a. IsCodeTotal d c r a)
    (λ v r n. IsSortedValue d v r n) (λ c r n. IsScaledNode d c r n) (bound_follows d) k [] 0
    (each_of_two (λ v l m. IsSortedValue d v l m) (λ v l m. IsScaledValue d v l m)
    (λ c l m. IsSortedNode d c l m) (λ c l m. IsScaledNode d c l m) k [] 0
    (sorted_nodes d xs k h) (scaled_nodes d xs k i))

pub bounds_meet :
    (d : Declarations) (xs : List ℕ) (k : PayoffCode) (a : CodeTotal) → MeetsInCode d xs SortRule k
    → MeetsInCode d xs ScaleRule k → bounds_tried d k [] 0 ≡ Ok a
    → MeetsInCode d xs BoundRule k × (a.amount ≡ total_of_code d k [])
bounds_meet d xs k a h i e =
    let q = meets (code_is_bounded d) (sites_of_code EachDay (λ _. pos 0) k [] 0)
    (λ (b : CodeTotal). IsCodeTotal d k [] b) (bounds_tried d k [] 0) a (bounds_find d xs k h i)
    e in
    let t : IsCodeTotal d k [] a = q.1 in
    (q.0, t.0)

pub bounds_fail :
    (d : Declarations) (xs : List ℕ) (k : PayoffCode) (j : ℕ) → MeetsInCode d xs SortRule k
    → MeetsInCode d xs ScaleRule k → bounds_tried d k [] 0 ≡ Err j → FailsInCode d xs BoundRule k j
bounds_fail d xs k j h i e =
    fails (code_is_bounded d) (sites_of_code EachDay (λ _. pos 0) k [] 0)
    (λ (b : CodeTotal). IsCodeTotal d k [] b) (bounds_tried d k [] 0) j (bounds_find d xs k h i)
    e
