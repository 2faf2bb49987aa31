-- A simple contract meets each rule at each node: the node itself, from what is measured of it, and its parts.
use Rattle.std.proofs.Common.{◌≡◌, ℕ, pos, ◌+◌, ◌-◌, ◌*◌, ◌^◌, ◌≤◌, nat_le, leb-true, le-leb, ◌&&◌, true, List, [], ◌∷◌, ◌++◌, Option, Some, None, refl, sym, subst, ◌∙◌, arith}
use Rattle.std.proofs.Math.Nat.{mul-le-mul_right}
use Rattle.std.proofs.lemmas.Bool.{and_parts, and_from}
use Rattle.std.proofs.lemmas.Int.{ints}
use Rattle.decimal.proofs.PowerFacts.{ten_most}
use Rattle.term_model.specs.Declarations.{Declarations, decimals_of}
use Rattle.term_model.specs.DayCounts.{Days}
use Rattle.term_model.specs.declared.rules.Rule.{Rule}
use Rattle.term_model.specs.declared.rules.Rule.TheVariants.{Sort, Time, Scale as ScaleRule, Size as SizeRule, Bound}
use Rattle.term_model.specs.declared.values.Kind.{Kind}
use Rattle.term_model.specs.Terms.{Expression, Contract, Zero, Pay, Both, Scale, After, Let, Within}
use Rattle.term_model.specs.Kinds.{scale_of, kind_of}
use Rattle.term_model.specs.Values.{kind_or}
use Rattle.term_model.specs.Flows.{count_of, scale_of_contract}
use Rattle.term_model.specs.Sizes.{nodes, nodes_of_contract, height_of_contract, reach, past_of_contract, work_of_contract}
use Rattle.term_model.specs.Smallness.{days_of_contract, within_limits}
use Rattle.term_model.specs.Times.{IsAllowed}
use Rattle.term_model.specs.AssetScales.{assets_are_scaled, payments_fit}
use Rattle.term_model.specs.Bounds.{Range, ranges_round, total_of, aligned_total}
use Rattle.term_model.specs.Sorts.{is_sorted}
use Rattle.term_model.specs.Sites.{Site, Trial, Layer, Naming, Counting, Later, Earlier, Undated, sites_of, sites_of_contract, contract_at, kinds_round, AllPass}
use Rattle.term_model.specs.Acceptance.{Passes}
use Rattle.term_model.proofs.AssetFacts.{by_payments}
use Rattle.term_model.proofs.Trials.{AllPass-append}
use Rattle.interval_check.proofs.AlignedFacts.{raised_twice, below_raised}
use Rattle.contract_check.specs.declared.simple_contracts.Measure.{Measure}
use Rattle.contract_check.specs.SimpleContracts.{IsBy, IsUnderWaits, MeetsRules, IsMeasure}

-- ---- under waits alone

no_kinds : (d : Declarations) (r : List Layer) → IsUnderWaits r → kinds_round d r ≡ []
no_kinds d [] h = refl
no_kinds d (Naming e ∷ r) h = absurd h
no_kinds d (Counting b n f ∷ r) h = absurd h
no_kinds d (Later n ∷ r) h = no_kinds d r h
no_kinds d (Earlier n ∷ r) h = absurd h
no_kinds d (Undated ∷ r) h = absurd h

no_ranges : (d : Declarations) (r : List Layer) → IsUnderWaits r → ranges_round d r ≡ []
no_ranges d [] h = refl
no_ranges d (Naming e ∷ r) h = absurd h
no_ranges d (Counting b n f ∷ r) h = absurd h
no_ranges d (Later n ∷ r) h = no_ranges d r h
no_ranges d (Earlier n ∷ r) h = absurd h
no_ranges d (Undated ∷ r) h = absurd h

no_times : (r : List Layer) → IsUnderWaits r → IsAllowed r []
no_times [] h = refl
no_times (Naming e ∷ r) h = absurd h
no_times (Counting b n f ∷ r) h = absurd h
no_times (Later n ∷ r) h = ([], refl, no_times r h)
no_times (Earlier n ∷ r) h = absurd h
no_times (Undated ∷ r) h = absurd h

-- ---- one node

pub by_zero : (start : Option ℕ) → IsBy (pos 0) start
by_zero None = tt
by_zero (Some day) = omega (arith, ints)

-- payments that fit under factors fit under fewer decimals
fewer_fit : (d : Declarations) (c : Contract) (ks : List Kind) (s t : ℕ) → t ≤ s → payments_fit d c ks s ≡ true → payments_fit d c ks t ≡ true
fewer_fit d Zero ks s t le h = refl
fewer_fit d (Pay a p q) ks s t le h =
    let fits : s ≤ decimals_of d a = leb-true s (decimals_of d a) h in
    le-leb t (decimals_of d a) (omega arith)
fewer_fit d (Both a b) ks s t le h =
    let parts = and_parts (payments_fit d a ks s) (payments_fit d b ks s) h in
    and_from _ _ (fewer_fit d a ks s t le parts.0) (fewer_fit d b ks s t le parts.1)
fewer_fit d (Scale e c) ks s t le h = fewer_fit d c ks (s + scale_of d e ks) (t + scale_of d e ks) (omega arith) h
fewer_fit d (After n c) ks s t le h = fewer_fit d c ks s t le h
fewer_fit d (Let e c) ks s t le h = fewer_fit d c (kind_or (kind_of d e ks) ∷ ks) s t le h
fewer_fit d (Within e n a b) ks s t le h =
    let parts = and_parts (payments_fit d a ks s) (payments_fit d b ks s) h in
    and_from _ _ (fewer_fit d a ks s t le parts.0) (fewer_fit d b ks s t le parts.1)

scaled_here : (d : Declarations) (above : ℕ) (c : Contract) (ks : List Kind) → ks ≡ [] → above + scale_of_contract d c [] ≤ d.amounts → payments_fit d c [] above ≡ true → (nat_le (scale_of_contract d c ks) d.amounts && assets_are_scaled d c ks) ≡ true
scaled_here d above c ks e fits paid =
    subst (λ (js : List Kind). (nat_le (scale_of_contract d c js) d.amounts && assets_are_scaled d c js) ≡ true) (sym e)
    (and_from _ _ (le-leb (scale_of_contract d c []) d.amounts (omega (arith, fits))) (by_payments d c [] ∙ fewer_fit d c [] above 0 (omega arith) paid))

few_days : (c : Contract) → days_of_contract c ≤ reach c
few_days Zero = omega arith
few_days (Pay a p q) = omega arith
few_days (Both a b) = omega arith
few_days (Scale e c) = omega arith
few_days (After n c) = omega arith
few_days (Let e c) = omega arith
few_days (Within e n a b) = omega arith

pub limits_kept : (h n days far back steps : ℕ) → h ≤ 200 → n ≤ 100_000 → far ≤ 100_000 → days ≤ far → back ≤ 900_000 → steps ≤ n → within_limits h n days far back steps ≡ true
limits_kept h n days far back steps low few near short none little =
    and_from _ _ (le-leb h 200 low)
    (and_from _ _ (le-leb n 100_000 few)
    (and_from _ _ (le-leb days 100_000 (omega arith))
    (and_from _ _ (le-leb far 100_000 near)
    (and_from _ _ (le-leb (far + back) 1_000_000 (omega arith)) (le-leb steps 10_000_000 (omega arith))))))

-- a total that fits at a part's own place fits at the portfolio's decimals
total_fits : (t k above s : ℕ) → above ≤ 9 → above + s ≤ k → t * 10 ^ (k - above - s) ≤ 10 ^ 18 → t * 10 ^ (k - s) ≤ 10 ^ 27
total_fits t k above s few fits small =
    let whole : t * 10 ^ ((k - above) - s) * 10 ^ (k - (k - above)) ≡ t * 10 ^ (k - s) = raised_twice t s (k - above) k (omega arith) (omega arith) in
    let power : 10 ^ (k - (k - above)) ≤ 10 ^ 9 = ten_most (k - (k - above)) 9 (omega arith) in
    let one : t * 10 ^ (k - above - s) * 10 ^ (k - (k - above)) ≤ 10 ^ 18 * 10 ^ (k - (k - above)) = mul-le-mul_right (10 ^ (k - (k - above))) small in
    omega arith

bounded_here : (d : Declarations) (above : ℕ) (c : Contract) (g : List Range) → g ≡ [] → above ≤ 9 → above + scale_of_contract d c [] ≤ d.amounts → total_of d c [] * 10 ^ (d.amounts - above - scale_of_contract d c []) ≤ 10 ^ 18 → (nat_le (total_of d c g) (10 ^ 27) && nat_le (aligned_total d c g) (10 ^ 27)) ≡ true
bounded_here d above c g e few fits small =
    let t : ℕ = total_of d c [] in
    let raised : t * 10 ^ (d.amounts - scale_of_contract d c []) ≤ 10 ^ 27 = total_fits t d.amounts above (scale_of_contract d c []) few fits small in
    let below : t ≤ t * 10 ^ (d.amounts - scale_of_contract d c []) = below_raised t (d.amounts - scale_of_contract d c []) in
    subst (λ (h : List Range). (nat_le (total_of d c h) (10 ^ 27) && nat_le (aligned_total d c h) (10 ^ 27)) ≡ true) (sym e)
    (and_from _ _ (le-leb t (10 ^ 27) (omega arith)) (le-leb (aligned_total d c []) (10 ^ 27) raised))

-- the sorts of a node are right, whatever stands round it
abbrev pub SortsAreRight : Declarations → Contract → Type 0
SortsAreRight d c = (r : List Layer) (k : ℕ) → is_sorted d (contract_at k r c) ≡ true

abbrev PassesHere : Declarations → Contract → Type 0
PassesHere d c = (rule : Rule) (r : List Layer) (k : ℕ) → IsUnderWaits r → Passes d rule (contract_at k r c)

pub passes_here : (d : Declarations) (above : ℕ) (c : Contract) (m : Measure) → above ≤ 9 → SortsAreRight d c → IsMeasure d above c m → PassesHere d c
passes_here d above c m few sorted h Sort r k l = sorted r k
passes_here d above c m few sorted h Time r k l = ([], pos 0, no_times r l, (h.start (pos 0)).1 (by_zero m.start))
passes_here d above c m few sorted h ScaleRule r k l = scaled_here d above c (kinds_round d r) (no_kinds d r l) h.decimals h.payments
passes_here d above c m few sorted h SizeRule r k l =
    limits_kept (height_of_contract c) (nodes_of_contract c) (days_of_contract c) (reach c) (past_of_contract c) (work_of_contract c)
    (omega (arith, h.height, h.within.height)) (omega (arith, h.nodes, h.within.nodes)) (omega (arith, h.reach, h.within.reach)) (few_days c) h.past h.work
passes_here d above c m few sorted h Bound r k l =
    bounded_here d above c (ranges_round d r) (no_ranges d r l) few h.decimals (subst (λ (n : ℕ). n ≤ 10 ^ 18) h.total h.within.total)

-- ---- a contract by its parts

pub leaf_rules : (d : Declarations) (c : Contract) → ((w : Trial) (r : List Layer) (k : ℕ) → sites_of_contract w c r k ≡ contract_at k r c ∷ []) → PassesHere d c → MeetsRules d c
leaf_rules d c e here rule w r k l = subst (λ (xs : List Site). AllPass (Passes d rule) xs) (sym (e w r k)) (here rule r k l, tt)

pub both_rules : (d : Declarations) (a b : Contract) → MeetsRules d a → MeetsRules d b → PassesHere d (Both a b) → MeetsRules d (Both a b)
both_rules d a b ha hb here rule w r k l =
    let P : Site → Type 0 = Passes d rule in
    let ys : List Site = sites_of_contract w b r (k + 1 + nodes_of_contract a) in
    let node : List Site = contract_at k r (Both a b) ∷ [] in
    AllPass-append P (sites_of_contract w a r (k + 1)) (ys ++ node) (ha rule w r (k + 1) l)
    (AllPass-append P ys node (hb rule w r (k + 1 + nodes_of_contract a) l) (here rule r k l, tt))

pub scaled_rules : (d : Declarations) (e : Expression) (c : Contract) → ((rule : Rule) (w : Trial) (r : List Layer) (k : ℕ) → AllPass (Passes d rule) (sites_of w e r k)) → MeetsRules d c → PassesHere d (Scale e c) → MeetsRules d (Scale e c)
scaled_rules d e c he hc here rule w r k l =
    let P : Site → Type 0 = Passes d rule in
    let ys : List Site = sites_of_contract w c r (k + 1 + nodes e) in
    let node : List Site = contract_at k r (Scale e c) ∷ [] in
    AllPass-append P (sites_of w e r (k + 1)) (ys ++ node) (he rule w r (k + 1))
    (AllPass-append P ys node (hc rule w r (k + 1 + nodes e) l) (here rule r k l, tt))

pub delayed_rules : (d : Declarations) (n : Days) (c : Contract) → MeetsRules d c → PassesHere d (After n c) → MeetsRules d (After n c)
delayed_rules d n c hc here rule w r k l =
    let node : List Site = contract_at k r (After n c) ∷ [] in
    AllPass-append (Passes d rule) (sites_of_contract w c (Later (count_of n) ∷ r) (k + 1)) node (hc rule w (Later (count_of n) ∷ r) (k + 1) l) (here rule r k l, tt)
