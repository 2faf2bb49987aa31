-- The expansion of a plan over declarations meets the rules on sorts and times: its factors are numbers, its tests are
-- flags of the day, and what it reads has been observed before.
use Rattle.std.proofs.Common.{ℕ, zero, suc, ℤ, pos, neg_ℤ, ◌-ℤ◌, ◌≤ℤ◌, ◌+◌, ◌-◌, ◌<◌, IsTrue, List, [], ◌∷◌, length, map, Option, Some, None, is_some, refl, arith}
use Rattle.std.specs.List.{range_with_len}
use Rattle.std.proofs.lemmas.Int.{ints}
use Rattle.std.proofs.lemmas.List.FromFn.{length-map-range_with_len}
use Rattle.term_model.specs.Declarations.{Declarations}
use Rattle.term_model.specs.declared.label.Label.{Label}
use Rattle.term_model.specs.declared.label.Label.TheVariants.{Number as NumberLabel, Flag}
use Rattle.term_model.specs.DayCounts.{Num as Count}
use Rattle.term_model.specs.declared.rules.Rule.TheVariants.{Sort}
use Rattle.term_model.specs.declared.values.Kind.{Kind}
use Rattle.term_model.specs.declared.values.Kind.TheVariants.{Number}
use Rattle.term_model.specs.Terms.{Contract, Both, After, Within, Obs, Scale, Pay}
use Rattle.term_model.specs.Environments.{label_of}
use Rattle.term_model.specs.Kinds.{kind_of_label, on_number, on_numbers}
use Rattle.term_model.specs.Sizes.{nodes_of_contract}
use Rattle.term_model.specs.Sites.{Once, Layer, Later, Undated, AllPass, sites_of_contract}
use Rattle.term_model.specs.Sorts.{is_number, is_truth}
use Rattle.term_model.specs.Times.{Typed, TypedContract}
use Rattle.term_model.specs.Acceptance.{Passes}
use Rattle.term_model.proofs.Trials.{AllPass-append}
use Rattle.term_model.proofs.TimeFacts.{times_mean_typed}
use Rattle.schedule_forms.specs.declared.plans.Size.{Size}
use Rattle.schedule_forms.specs.declared.plans.Size.TheVariants.{Fixed, Fixing}
use Rattle.schedule_forms.specs.declared.plans.Leg.{Leg}
use Rattle.schedule_forms.specs.declared.plans.Plan.{Plan}
use Rattle.schedule_forms.specs.declared.plans.Plan.TheVariants.{Leg as LegPlan, Swap, Guarded}
use Rattle.schedule_forms.specs.PaymentSizes.{expression_of_size}
use Rattle.schedule_forms.specs.PaymentDays.{payment_day}
use Rattle.schedule_forms.specs.PlanLimits.{IsWithinLimits}
use Rattle.schedule_forms.specs.DeclaredPlans.{IsNumberLabel, IsFlagLabel, IsSizeOver, IsPlanOver}
use Rattle.schedule_forms.specs.Expansions.{payment, payments, balanced, cover_payment, guarded, expansion}
use Rattle.schedule_forms.specs.LawsSchedules.{ExpansionsAreSortedAndTimed}
use Rattle.schedule_forms.proofs.TreeFacts.{Each, each_left, each_right, tree_by}

-- makes no transfer before day t
abbrev IsTypedAt : ℤ → Contract → Type 0
IsTypedAt t c = TypedContract [] c t

size_typed : (size : Size) → Typed [] (expression_of_size size) (pos 0)
size_typed (Fixed mant scale) = tt
size_typed (Fixing mode scale label lag mant i) = (past lag, tt)
  where
    past : (lag : ℕ) → neg_ℤ (pos lag) ≤ℤ pos 0
    past lag = omega (arith, ints)

zero_is_now : pos 0 ≤ℤ pos 0
zero_is_now = omega (arith, ints)

earlier : (t : ℤ) (n : ℕ) → t ≤ℤ pos 0 → (t -ℤ pos n) ≤ℤ pos 0
earlier t n h = omega (arith, ints, h)

payment_typed : (leg : Leg) (t : ℤ) → t ≤ℤ pos 0 → IsTypedAt t (payment leg)
payment_typed leg t h = (pos 0, h, size_typed leg.size, zero_is_now)

each_typed : (leg : Leg) (t : ℤ) (a m : ℕ) → t ≤ℤ pos 0 → Each (IsTypedAt t) (map (λ i. After (Count (payment_day leg i)) (payment leg)) (range_with_len a m))
each_typed leg t a zero h = tt
each_typed leg t a (suc m) h =
    (payment_typed leg (t -ℤ pos (payment_day leg a)) (earlier t (payment_day leg a) h), each_typed leg t (a + 1) m h)

some_payment : (leg : Leg) → 0 < leg.times → 0 < length (payments leg)
some_payment leg some = omega (arith, length-map-range_with_len (λ i. After (Count (payment_day leg i)) (payment leg)) 0 leg.times)

leg_typed : (leg : Leg) → 0 < leg.times → IsTypedAt (pos 0) (balanced (payments leg))
leg_typed leg some =
    tree_by (λ cs c. Each (IsTypedAt (pos 0)) cs → IsTypedAt (pos 0) c) (λ c h. h.0)
    (λ xs ys a b even p q h. (p (each_left (IsTypedAt (pos 0)) xs ys h), q (each_right (IsTypedAt (pos 0)) xs ys h)))
    (payments leg) (some_payment leg some) (each_typed leg (pos 0) 0 leg.times zero_is_now)

guard_typed : (leg : Leg) (flag : ℕ) (mant : ℤ) (scale days m : ℕ) (t : ℤ) → t ≤ℤ pos 0 → IsTypedAt t (guarded leg flag (cover_payment leg mant scale) days m)
guard_typed leg flag mant scale days zero t h =
    (zero_is_now, (pos 0, h, tt, zero_is_now), payment_typed leg (t -ℤ pos days) (earlier t days h))
guard_typed leg flag mant scale days (suc m) t h =
    let low = earlier t days h in
    (zero_is_now, (pos 0, h, tt, zero_is_now), (payment_typed leg (t -ℤ pos days) low, guard_typed leg flag mant scale leg.every m (t -ℤ pos days) low))

expansion_typed : (plan : Plan) → IsWithinLimits plan → TypedContract [] (expansion plan) (pos 0)
expansion_typed (LegPlan leg) h = leg_typed leg h.some_times
expansion_typed (Swap one two) h = (leg_typed one h.0.some_times, leg_typed two h.1.some_times)
expansion_typed (Guarded leg flag mant scale) h = guard_typed leg flag mant scale leg.first (leg.times - 1) (pos 0) zero_is_now

-- sorted wherever it stands
abbrev IsSorted : Declarations → Contract → Type 0
IsSorted d c = (r : List Layer) (k : ℕ) → AllPass (Passes d Sort) (sites_of_contract Once c r k)

-- an observed number, times a notional, rounded
number_sorted : (o : Option Label) (scale i : ℕ) → IsNumberLabel o
    → IsTrue (is_some (kind_of_label o)) × IsTrue (is_some (on_numbers (λ s t. Some (Number (s + t))) (kind_of_label o) (Some (Number i)))) × IsTrue (is_number (on_number (λ _. Some (Number scale)) (on_numbers (λ s t. Some (Number (s + t))) (kind_of_label o) (Some (Number i)))))
number_sorted None scale i h = absurd h
number_sorted (Some Flag) scale i h = absurd h
number_sorted (Some (NumberLabel s low high)) scale i h = (refl, refl, refl)

number_is_some : (o : Option Kind) → IsTrue (is_number o) → IsTrue (is_some o)
number_is_some None h = h
number_is_some (Some k) h = refl

payment_sorted : (d : Declarations) (leg : Leg) → IsSizeOver d leg.size → IsSorted d (payment leg)
payment_sorted d leg over r k = by_size leg.size leg.asset leg.from leg.to over
  where
    by_size : (size : Size) (a p q : ℕ) → IsSizeOver d size → AllPass (Passes d Sort) (sites_of_contract Once (Scale (expression_of_size size) (Pay a p q)) r k)
    by_size (Fixed mant scale) a p q over = (refl, (refl, (refl, tt)))
    by_size (Fixing mode scale label lag mant i) a p q over =
        let sorts = number_sorted (label_of d label) scale i over.1 in
        (sorts.0, (refl, (sorts.1, (number_is_some _ sorts.2, (refl, (sorts.2, tt))))))

each_sorted : (d : Declarations) (leg : Leg) (a m : ℕ) → IsSorted d (payment leg) → Each (IsSorted d) (map (λ i. After (Count (payment_day leg i)) (payment leg)) (range_with_len a m))
each_sorted d leg a zero h = tt
each_sorted d leg a (suc m) h =
    ((λ r k. AllPass-append (Passes d Sort) (sites_of_contract Once (payment leg) (Later (payment_day leg a) ∷ r) (k + 1)) _ (h (Later (payment_day leg a) ∷ r) (k + 1)) (refl, tt)), each_sorted d leg (a + 1) m h)

both_sorted : (d : Declarations) (a b : Contract) → IsSorted d a → IsSorted d b → IsSorted d (Both a b)
both_sorted d a b p q r k =
    AllPass-append (Passes d Sort) (sites_of_contract Once a r (k + 1)) _ (p r (k + 1))
    (AllPass-append (Passes d Sort) (sites_of_contract Once b r (k + 1 + nodes_of_contract a)) _ (q r (k + 1 + nodes_of_contract a)) (refl, tt))

leg_sorted : (d : Declarations) (leg : Leg) → 0 < leg.times → IsSizeOver d leg.size → IsSorted d (balanced (payments leg))
leg_sorted d leg some over =
    tree_by (λ cs c. Each (IsSorted d) cs → IsSorted d c) (λ c h. h.0)
    (λ xs ys a b even p q h. both_sorted d a b (p (each_left (IsSorted d) xs ys h)) (q (each_right (IsSorted d) xs ys h)))
    (payments leg) (some_payment leg some) (each_sorted d leg 0 leg.times (payment_sorted d leg over))

flag_sorted : (o : Option Label) → IsFlagLabel o → IsTrue (is_some (kind_of_label o)) × IsTrue (is_truth (kind_of_label o))
flag_sorted None h = absurd h
flag_sorted (Some Flag) h = (refl, refl)
flag_sorted (Some (NumberLabel s low high)) h = absurd h

within_sorted : (d : Declarations) (flag days : ℕ) (a b : Contract) → IsFlagLabel (label_of d flag) → IsSorted d a → IsSorted d b → IsSorted d (Within (Obs flag (pos 0)) (Count days) a b)
within_sorted d flag days a b over p q r k =
    let sorts = flag_sorted (label_of d flag) over in (
      sorts.0,
      AllPass-append (Passes d Sort) (sites_of_contract Once a (Undated ∷ r) (k + 1 + 1)) _ (p (Undated ∷ r) (k + 1 + 1))
          (AllPass-append (Passes d Sort) (sites_of_contract Once b (Later days ∷ r) (k + 1 + 1 + nodes_of_contract a)) _ (q (Later days ∷ r) (k + 1 + 1 + nodes_of_contract a)) (sorts.1, tt)),
    )

cover_sorted : (d : Declarations) (leg : Leg) (mant : ℤ) (scale : ℕ) → IsSorted d (cover_payment leg mant scale)
cover_sorted d leg mant scale r k = (refl, (refl, (refl, tt)))

guard_sorted : (d : Declarations) (leg : Leg) (flag : ℕ) (mant : ℤ) (scale days m : ℕ) → IsFlagLabel (label_of d flag) → IsSorted d (payment leg) → IsSorted d (guarded leg flag (cover_payment leg mant scale) days m)
guard_sorted d leg flag mant scale days zero over h =
    within_sorted d flag days (cover_payment leg mant scale) (payment leg) over (cover_sorted d leg mant scale) h
guard_sorted d leg flag mant scale days (suc m) over h =
    let further = guarded leg flag (cover_payment leg mant scale) leg.every m in
    within_sorted d flag days (cover_payment leg mant scale) (Both (payment leg) further) over (cover_sorted d leg mant scale)
    (both_sorted d (payment leg) further h (guard_sorted d leg flag mant scale leg.every m over h))

expansion_sorted : (d : Declarations) (plan : Plan) → IsWithinLimits plan → IsPlanOver d plan → IsSorted d (expansion plan)
expansion_sorted d (LegPlan leg) h over = leg_sorted d leg h.some_times over.size_over
expansion_sorted d (Swap one two) h over =
    both_sorted d (balanced (payments one)) (balanced (payments two)) (leg_sorted d one h.0.some_times over.0.size_over) (leg_sorted d two h.1.some_times over.1.size_over)
expansion_sorted d (Guarded leg flag mant scale) h over =
    guard_sorted d leg flag mant scale leg.first (leg.times - 1) over.2 (payment_sorted d leg over.0.size_over)

pub sorted_and_timed : ExpansionsAreSortedAndTimed
sorted_and_timed d plan h over =
    (expansion_sorted d plan h over [] 0, (times_mean_typed d (expansion plan)).1 (pos 0, expansion_typed plan h))
