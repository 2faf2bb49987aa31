-- Narrower ranges of names give narrower intervals and lower totals, and keep the rules.
use Rattle.std.proofs.Common.{◌≡◌, ℕ, zero, suc, ◌+◌, ◌-◌, ◌*◌, ◌^◌, max, ◌≤◌, true, ◌&&◌, nat_le, IsTrue, int_le, List, [], ◌∷◌, Option, Some, None, slice_get, pos, refl, ap, sym, subst, ◌∙◌, arith}
use Rattle.std.proofs.Math.Nat.{mul-le-mul_right}
use Rattle.std.proofs.lemmas.Bool.{and_parts, and_from, le-leb}
use Rattle.std.proofs.lemmas.Int.{ints}
use Rattle.term_model.specs.Declarations.{Declarations}
use Rattle.term_model.specs.declared.label.Label.{Label}
use Rattle.term_model.specs.declared.label.Label.TheVariants.{Number as NumberLabel, Flag}
use Rattle.term_model.specs.declared.values.Kind.{Kind}
use Rattle.term_model.specs.Terms.{Expression, Lit, Yes, Var, Obs, Neg, Num, Cmp, Not, Logic, Cond, Widen, Round, Div, Acc}
use Rattle.term_model.specs.Terms.{Contract, Zero, Pay, Both, Scale, After, Let, Within}
use Rattle.term_model.specs.Limits.{is_label}
use Rattle.term_model.specs.Environments.{label_of}
use Rattle.term_model.specs.Kinds.{kind_of}
use Rattle.term_model.specs.Values.{kind_or}
use Rattle.term_model.specs.Flows.{scale_of_contract}
use Rattle.term_model.specs.Bounds.{Range, range_kinds, interval_of, interval_of_label, interval_of_range, greatest_size, total_of, aligned_total, greatest_total}
use Rattle.interval_check.specs.Nodes.{IsBounded, IsBoundedContract, range_after, range_of, is_sorted_part, is_scaled_part}
use Rattle.interval_check.specs.Within.{KeepsLimits}
use Rattle.interval_check.specs.Narrowing.{IsNarrower, AreNarrower, IntervalsAreMonotone, TotalsAreMonotone, RulesAreMonotone, ContractRulesAreMonotone}
use Rattle.interval_check.proofs.ValueFacts.{label_keeps, in_order}
use Rattle.interval_check.proofs.NodeTests.{bound_tests}
use Rattle.interval_check.proofs.KindsEnough.{kinds_are_enough, kinds_are_enough_for}
use Rattle.interval_check.proofs.ContractSafeFacts.{total_fits}
use Rattle.interval_check.proofs.TurnoverFacts.{product_at_most}
use Rattle.interval_check.proofs.NarrowFacts.{narrower_same, narrower_fits, narrower_size}
use Rattle.interval_check.proofs.TightFacts.{IsTight, SameKind, tight_neg, tight_num, tight_cmp, tight_not, tight_logic, tight_cond, tight_widen, tight_round, tight_div, tight_acc}

pub narrower_kinds : (h g : List Range) → AreNarrower h g → range_kinds h ≡ range_kinds g
narrower_kinds [] [] p = refl
narrower_kinds [] (s ∷ g) p = absurd p
narrower_kinds (r ∷ h) [] p = absurd p
narrower_kinds (r ∷ h) (s ∷ g) p =
    ap (λ (k : Kind). k ∷ range_kinds h) p.0.same_kind ∙ ap (λ (ks : List Kind). s.kind ∷ ks) (narrower_kinds h g p.1)

narrower_name : (h g : List Range) (back : ℕ) → AreNarrower h g → IsNarrower (interval_of_range (slice_get h back)) (interval_of_range (slice_get g back))
narrower_name [] [] back p = narrower_same (pos 0)
narrower_name [] (s ∷ g) back p = absurd p
narrower_name (r ∷ h) [] back p = absurd p
narrower_name (r ∷ h) (s ∷ g) zero p = p.0.inside
narrower_name (r ∷ h) (s ∷ g) (suc back) p = narrower_name h g back p.1

-- a label's bounds are in order
narrower_label : (o : Option Label) → ((label : Label) → o ≡ Some label → is_label label ≡ true) → IsNarrower (interval_of_label o) (interval_of_label o)
narrower_label None h = narrower_same (pos 0)
narrower_label (Some Flag) h = narrower_same (pos 0)
narrower_label (Some (NumberLabel scale low high)) h =
    let limits = and_parts (nat_le scale 18) _ (h (NumberLabel scale low high) refl) in
    let known = and_parts (int_le low high) _ limits.1 in
    let order = in_order low high known.0 in
    record {
      low = record { low = omega (arith, ints); high = order };
      high = record { low = order; high = omega (arith, ints) };
    }

abbrev pub StaysTight : Declarations → Expression → Type 0
StaysTight d e = (h g : List Range) → AreNarrower h g → IsBounded d e g → IsTight d e h e g

same_kind : (d : Declarations) (e : Expression) (h g : List Range) → AreNarrower h g → SameKind d e h e g
same_kind d e h g p = ap (λ (ks : List Kind). kind_of d e ks) (narrower_kinds h g p)

-- the name of an accumulator in a round
narrower_round : (d : Declarations) (body : Expression) (i : ℕ) (first : Expression) (h g : List Range) → AreNarrower h g → IsNarrower (interval_of d (Acc body i first) h) (interval_of d (Acc body i first) g) → AreNarrower (range_after d body i first h ∷ h) (range_after d body i first g ∷ g)
narrower_round d body i first h g p inside =
    (record { same_kind = ap (λ (ks : List Kind). kind_or (kind_of d first ks)) (narrower_kinds h g p); inside = inside }, p)

pub stays_tight : (d : Declarations) → KeepsLimits d → (e : Expression) → StaysTight d e
stays_tight d limits (Lit m s) h g p b = record { bounded = b; inside = narrower_same m }
stays_tight d limits (Yes v) h g p b = record { bounded = b; inside = narrower_same (pos 0) }
stays_tight d limits (Var back) h g p b =
    let inner = narrower_name h g back p in
    record { bounded = narrower_fits _ _ inner (bound_tests d (Var back) g b).1; inside = inner }
stays_tight d limits (Obs l t) h g p b =
    record { bounded = b; inside = narrower_label (label_of d l) (λ label e. label_keeps d.labels l label limits e) }
stays_tight d limits (Neg e) h g p b = tight_neg d e h e g (stays_tight d limits e h g p b.0) b
stays_tight d limits (Num op x y) h g p b =
    tight_num d op x y h x y g (same_kind d x h g p) (same_kind d y h g p) (stays_tight d limits x h g p b.0) (stays_tight d limits y h g p b.1) b
stays_tight d limits (Cmp op x y) h g p b =
    tight_cmp d op x y h x y g (same_kind d x h g p) (same_kind d y h g p) (stays_tight d limits x h g p b.0) (stays_tight d limits y h g p b.1) b
stays_tight d limits (Not e) h g p b = tight_not d e h e g (stays_tight d limits e h g p b.0) b
stays_tight d limits (Logic op x y) h g p b =
    tight_logic d op x y h x y g (stays_tight d limits x h g p b.0) (stays_tight d limits y h g p b.1) b
stays_tight d limits (Cond t x y) h g p b =
    tight_cond d t x y h t x y g (same_kind d x h g p) (same_kind d y h g p) (stays_tight d limits t h g p b.0) (stays_tight d limits x h g p b.1) (stays_tight d limits y h g p b.2) b
stays_tight d limits (Widen s e) h g p b = tight_widen d s e h e g (same_kind d e h g p) (stays_tight d limits e h g p b.0) b
stays_tight d limits (Round mode s e) h g p b =
    tight_round d mode s e h e g (same_kind d e h g p) (stays_tight d limits e h g p b.0) b
stays_tight d limits (Div mode s x y) h g p b =
    tight_div d mode s x y h x y g (same_kind d x h g p) (same_kind d y h g p) (stays_tight d limits x h g p b.0) (stays_tight d limits y h g p b.1) b
stays_tight d limits (Acc body n first) h g p b =
    tight_acc d body n first h body first g (same_kind d first h g p) (ap (λ (ks : List Kind). kind_of d body (kind_or (kind_of d first ks) ∷ ks)) (narrower_kinds h g p)) (stays_tight d limits first h g p b.0)
    (λ i l inside. stays_tight d limits body (range_after d body i first h ∷ h) (range_after d body i first g ∷ g) (narrower_round d body i first h g p inside) (b.1 i l).0)
    b

pub intervals_are_monotone : IntervalsAreMonotone
intervals_are_monotone d e h g limits p b =
    let known = stays_tight d limits e h g p b in
    (known.bounded, known.inside)

-- contracts

-- the name of a `let`
pub narrower_let : (d : Declarations) (e : Expression) (h g : List Range) → AreNarrower h g → IsNarrower (interval_of d e h) (interval_of d e g) → AreNarrower (range_of d e h ∷ h) (range_of d e g ∷ g)
narrower_let d e h g p inside =
    (record { same_kind = ap (λ (ks : List Kind). kind_or (kind_of d e ks)) (narrower_kinds h g p); inside = inside }, p)

-- a lower total at one scale
total_passes : (d : Declarations) (c : Contract) (h g : List Range) → AreNarrower h g → total_of d c h ≤ total_of d c g → IsTrue (nat_le (total_of d c g) greatest_total && nat_le (aligned_total d c g) greatest_total) → IsTrue (nat_le (total_of d c h) greatest_total && nat_le (aligned_total d c h) greatest_total)
total_passes d c h g p le t =
    let known = total_fits d c g t in
    let own = known.own in
    let aligned = known.aligned in
    let same : scale_of_contract d c (range_kinds g) ≡ scale_of_contract d c (range_kinds h) = ap (λ (ks : List Kind). scale_of_contract d c ks) (sym (narrower_kinds h g p)) in
    let k = d.amounts - scale_of_contract d c (range_kinds g) in
    let most = mul-le-mul_right (10 ^ k) le in
    let here : total_of d c h * 10 ^ k ≤ greatest_total = omega arith in
    let there : aligned_total d c h ≤ greatest_total = subst (λ (s : ℕ). total_of d c h * 10 ^ (d.amounts - s) ≤ greatest_total) same here in
    and_from _ _ (le-leb (total_of d c h) greatest_total (omega arith)) (le-leb (aligned_total d c h) greatest_total there)

abbrev pub StaysBounded : Declarations → Contract → Type 0
StaysBounded d c =
    (h g : List Range) → AreNarrower h g → IsBoundedContract d c g → IsBoundedContract d c h × (total_of d c h ≤ total_of d c g)

-- of two parts at the greater of their scales, among kinds that are equal
total_of_both : (d : Declarations) (a b : Contract) (h g : List Range) → AreNarrower h g → total_of d a h ≤ total_of d a g → total_of d b h ≤ total_of d b g → total_of d (Both a b) h ≤ total_of d (Both a b) g
total_of_both d a b h g p left right =
    subst (λ (ks : List Kind). total_of d a h * 10 ^ (max (scale_of_contract d a ks) (scale_of_contract d b ks) - scale_of_contract d a ks) + total_of d b h * 10 ^ (max (scale_of_contract d a ks) (scale_of_contract d b ks) - scale_of_contract d b ks) ≤ total_of d (Both a b) g) (sym (narrower_kinds h g p))
    (let one = mul-le-mul_right (10 ^ (max (scale_of_contract d a (range_kinds g)) (scale_of_contract d b (range_kinds g)) - scale_of_contract d a (range_kinds g))) left in
    let two = mul-le-mul_right (10 ^ (max (scale_of_contract d a (range_kinds g)) (scale_of_contract d b (range_kinds g)) - scale_of_contract d b (range_kinds g))) right in
    omega arith)

total_of_within : (d : Declarations) (e : Expression) (h g : List Range) (a b : Contract) → AreNarrower h g → total_of d a h ≤ total_of d a g → total_of d b h ≤ total_of d b g → max (total_of d a h * 10 ^ (max (scale_of_contract d a (range_kinds h)) (scale_of_contract d b (range_kinds h)) - scale_of_contract d a (range_kinds h))) (total_of d b h * 10 ^ (max (scale_of_contract d a (range_kinds h)) (scale_of_contract d b (range_kinds h)) - scale_of_contract d b (range_kinds h))) ≤ max (total_of d a g * 10 ^ (max (scale_of_contract d a (range_kinds g)) (scale_of_contract d b (range_kinds g)) - scale_of_contract d a (range_kinds g))) (total_of d b g * 10 ^ (max (scale_of_contract d a (range_kinds g)) (scale_of_contract d b (range_kinds g)) - scale_of_contract d b (range_kinds g)))
total_of_within d e h g a b p left right =
    subst (λ (ks : List Kind). max (total_of d a h * 10 ^ (max (scale_of_contract d a ks) (scale_of_contract d b ks) - scale_of_contract d a ks)) (total_of d b h * 10 ^ (max (scale_of_contract d a ks) (scale_of_contract d b ks) - scale_of_contract d b ks)) ≤ max (total_of d a g * 10 ^ (max (scale_of_contract d a (range_kinds g)) (scale_of_contract d b (range_kinds g)) - scale_of_contract d a (range_kinds g))) (total_of d b g * 10 ^ (max (scale_of_contract d a (range_kinds g)) (scale_of_contract d b (range_kinds g)) - scale_of_contract d b (range_kinds g)))) (sym (narrower_kinds h g p))
    (let one = mul-le-mul_right (10 ^ (max (scale_of_contract d a (range_kinds g)) (scale_of_contract d b (range_kinds g)) - scale_of_contract d a (range_kinds g))) left in
    let two = mul-le-mul_right (10 ^ (max (scale_of_contract d a (range_kinds g)) (scale_of_contract d b (range_kinds g)) - scale_of_contract d b (range_kinds g))) right in
    omega arith)

pub stays_bounded : (d : Declarations) → KeepsLimits d → (c : Contract) → StaysBounded d c
stays_bounded d limits Zero h g p b =
    let least : total_of d Zero h ≤ total_of d Zero g = omega arith in
    (total_passes d Zero h g p least b, least)
stays_bounded d limits (Pay x y z) h g p b =
    let least : total_of d (Pay x y z) h ≤ total_of d (Pay x y z) g = omega arith in
    (total_passes d (Pay x y z) h g p least b, least)
stays_bounded d limits (Both x y) h g p b =
    let left = stays_bounded d limits x h g p b.0 in
    let right = stays_bounded d limits y h g p b.1 in
    let least = total_of_both d x y h g p left.1 right.1 in
    ((left.0, right.0, total_passes d (Both x y) h g p least b.2), least)
stays_bounded d limits (Scale e c) h g p b =
    let factor = stays_tight d limits e h g p b.0 in
    let body = stays_bounded d limits c h g p b.1 in
    let least : total_of d (Scale e c) h ≤ total_of d (Scale e c) g = product_at_most (total_of d c h) (greatest_size (interval_of d e h)) (total_of d c g) (greatest_size (interval_of d e g)) body.1 (narrower_size (interval_of d e h) (interval_of d e g) factor.inside) in
    ((factor.bounded, body.0, total_passes d (Scale e c) h g p least b.2), least)
stays_bounded d limits (After n c) h g p b =
    let body = stays_bounded d limits c h g p b.0 in
    ((body.0, total_passes d (After n c) h g p body.1 b.1), body.1)
stays_bounded d limits (Let e c) h g p b =
    let bound = stays_tight d limits e h g p b.0 in
    let body = stays_bounded d limits c (range_of d e h ∷ h) (range_of d e g ∷ g) (narrower_let d e h g p bound.inside) b.1 in
    ((bound.bounded, body.0, total_passes d (Let e c) h g p body.1 b.2), body.1)
stays_bounded d limits (Within e n x y) h g p b =
    let test = stays_tight d limits e h g p b.0 in
    let hit = stays_bounded d limits x h g p b.1 in
    let miss = stays_bounded d limits y h g p b.2 in
    let least : total_of d (Within e n x y) h ≤ total_of d (Within e n x y) g = total_of_within d e h g x y p hit.1 miss.1 in
    ((test.bounded, hit.0, miss.0, total_passes d (Within e n x y) h g p least b.3), least)

pub totals_are_monotone : TotalsAreMonotone
totals_are_monotone d c h g limits p b = stays_bounded d limits c h g p b

pub rules_are_monotone : RulesAreMonotone
rules_are_monotone d e h g limits p rules =
    record {
      sorts = kinds_are_enough (λ ks part. IsTrue (is_sorted_part d ks part)) d e g h (sym (narrower_kinds h g p)) rules.sorts;
      scales = kinds_are_enough (λ ks part. IsTrue (is_scaled_part d ks part)) d e g h (sym (narrower_kinds h g p)) rules.scales;
      bounds = (stays_tight d limits e h g p rules.bounds).bounded;
    }

pub contract_rules_are_monotone : ContractRulesAreMonotone
contract_rules_are_monotone d c h g limits p rules =
    record {
      sorts = kinds_are_enough_for (λ ks part. IsTrue (is_sorted_part d ks part)) d c g h (sym (narrower_kinds h g p)) rules.sorts;
      scales = kinds_are_enough_for (λ ks part. IsTrue (is_scaled_part d ks part)) d c g h (sym (narrower_kinds h g p)) rules.scales;
      bounds = (stays_bounded d limits c h g p rules.bounds).0;
    }
