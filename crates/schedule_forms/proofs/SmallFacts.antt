-- An expansion is within the limits of height and nodes.
use Rattle.std.proofs.Common.{◌≡◌, ℕ, zero, suc, ℤ, ◌+◌, ◌-◌, ◌*◌, ◌^◌, ◌<◌, ◌≤◌, max, List, ◌++◌, length, map, arith, length-append, pow-suc}
use Rattle.std.specs.List.{range_with_len}
use Rattle.std.proofs.lemmas.List.FromFn.{length-map-range_with_len}
use Rattle.term_model.specs.DayCounts.{Num as Count}
use Rattle.term_model.specs.Terms.{Contract, After}
use Rattle.term_model.specs.Sizes.{nodes, height, nodes_of_contract, height_of_contract}
use Rattle.schedule_forms.specs.declared.plans.Size.{Size}
use Rattle.schedule_forms.specs.declared.plans.Size.TheVariants.{Fixed, Fixing}
use Rattle.schedule_forms.specs.declared.plans.Leg.{Leg}
use Rattle.schedule_forms.specs.declared.plans.Plan.TheVariants.{Leg as LegPlan, Swap, Guarded}
use Rattle.schedule_forms.specs.PaymentSizes.{expression_of_size}
use Rattle.schedule_forms.specs.PaymentDays.{payment_day}
use Rattle.schedule_forms.specs.Expansions.{payment, payments, balanced, cover_payment, guarded}
use Rattle.schedule_forms.specs.LawsSchedules.{ExpansionsAreSmall}
use Rattle.schedule_forms.proofs.TreeFacts.{Each, Even, each_left, each_right, tree_by}

size_nodes : (size : Size) → nodes (expression_of_size size) ≤ 4
size_nodes (Fixed m s) = omega arith
size_nodes (Fixing mode s l lag m i) = omega arith

size_height : (size : Size) → height (expression_of_size size) ≤ 3
size_height (Fixed m s) = omega arith
size_height (Fixing mode s l lag m i) = omega arith

-- a payment after its days
abbrev IsSmallPayment : Contract → Type 0
IsSmallPayment c = (nodes_of_contract c ≤ 7) × (height_of_contract c ≤ 5)

each_small : (leg : Leg) (a m : ℕ) → Each IsSmallPayment (map (λ i. After (Count (payment_day leg i)) (payment leg)) (range_with_len a m))
each_small leg a zero = tt
each_small leg a (suc m) = ((omega (arith, size_nodes leg.size), omega (arith, size_height leg.size)), each_small leg (a + 1) m)

tree_nodes : (cs : List Contract) → 0 < length cs → Each IsSmallPayment cs → nodes_of_contract (balanced cs) + 1 ≤ 8 * length cs
tree_nodes cs some h =
    tree_by (λ cs c. Each IsSmallPayment cs → nodes_of_contract c + 1 ≤ 8 * length cs) (λ c h. more_than _ h.0.0)
    (λ xs ys a b even p q h.
    let left = p (each_left IsSmallPayment xs ys h) in
    let right = q (each_right IsSmallPayment xs ys h) in
    omega (arith, left, right, length-append xs ys)) cs some h
  where
    more_than : (n : ℕ) → n ≤ 7 → n + 1 ≤ 8 * 1
    more_than n h = omega arith

-- a tree of at most 2^k contracts is at most k higher than they are
tree_height : (cs : List Contract) (k : ℕ) → 0 < length cs → length cs ≤ 2 ^ k → Each IsSmallPayment cs → height_of_contract (balanced cs) ≤ k + 5
tree_height cs k some few h =
    tree_by (λ cs c. (k : ℕ) → length cs ≤ 2 ^ k → Each IsSmallPayment cs → height_of_contract c ≤ k + 5) (λ c k few h. omega (arith, h.0.1))
    (λ xs ys a b even p q k few h. higher xs ys a b even (λ k few. p k few (each_left IsSmallPayment xs ys h)) (λ k few. q k few (each_right IsSmallPayment xs ys h)) k few) cs some k few h
  where
    higher : (xs ys : List Contract) (a b : Contract) → Even xs ys → ((k : ℕ) → length xs ≤ 2 ^ k → height_of_contract a ≤ k + 5) → ((k : ℕ) → length ys ≤ 2 ^ k → height_of_contract b ≤ k + 5) → (k : ℕ) → length (xs ++ ys) ≤ 2 ^ k → max (height_of_contract a) (height_of_contract b) + 1 ≤ k + 5
    higher xs ys a b even p q zero few =
        absurd (omega (arith, length-append xs ys, even.some, even.few, few))
    higher xs ys a b even p q (suc k) few =
        let twice : 2 ^ suc k ≡ 2 ^ k * 2 = pow-suc 2 k in
        let left : length xs ≤ 2 ^ k = omega (arith, length-append xs ys, even.odd, few, twice) in
        let right : length ys ≤ 2 ^ k = omega (arith, length-append xs ys, even.few, few, twice) in
        omega (arith, p k left, q k right)

some_payment : (leg : Leg) → length (payments leg) ≡ leg.times
some_payment leg = length-map-range_with_len (λ i. After (Count (payment_day leg i)) (payment leg)) 0 leg.times

pub leg_small : (leg : Leg) → 0 < leg.times → leg.times ≤ 5_000 → (height_of_contract (balanced (payments leg)) ≤ 18) × (nodes_of_contract (balanced (payments leg)) < 40_000)
leg_small leg some few =
    let n = some_payment leg in
    let each = each_small leg 0 leg.times in (
      tree_height (payments leg) 13 (omega (arith, n)) (omega (arith, n)) each,
      omega (arith, n, tree_nodes (payments leg) (omega (arith, n)) each),
    )

guard_nodes : (leg : Leg) (flag : ℕ) (mant : ℤ) (scale days m : ℕ) → nodes_of_contract (guarded leg flag (cover_payment leg mant scale) days m) ≤ 12 * (m + 1)
guard_nodes leg flag mant scale days zero = omega (arith, size_nodes leg.size)
guard_nodes leg flag mant scale days (suc m) = omega (arith, size_nodes leg.size, guard_nodes leg flag mant scale leg.every m)

guard_height : (leg : Leg) (flag : ℕ) (mant : ℤ) (scale days m : ℕ) → height_of_contract (guarded leg flag (cover_payment leg mant scale) days m) ≤ 2 * m + 5
guard_height leg flag mant scale days zero = omega (arith, size_height leg.size)
guard_height leg flag mant scale days (suc m) = omega (arith, size_height leg.size, guard_height leg flag mant scale leg.every m)

both_small : (h i n m : ℕ) → h ≤ 18 → i ≤ 18 → n < 40_000 → m < 40_000 → (max h i + 1 ≤ 200) × (n + m + 1 ≤ 100_000)
both_small h i n m a b c e = (omega arith, omega arith)

pub expansions_small : ExpansionsAreSmall
expansions_small (LegPlan leg) h =
    let small = leg_small leg h.some_times h.few_times in
    (omega (arith, small.0), omega (arith, small.1))
expansions_small (Swap one two) h =
    let left = leg_small one h.0.some_times h.0.few_times in
    let right = leg_small two h.1.some_times h.1.few_times in
    both_small _ _ _ _ left.0 right.0 left.1 right.1
expansions_small (Guarded leg flag mant scale) h =
    let few : leg.times - 1 ≤ 59 = omega (arith, h.few_times) in
    (omega (arith, guard_height leg flag mant scale leg.first (leg.times - 1)), omega (arith, guard_nodes leg flag mant scale leg.first (leg.times - 1)))
