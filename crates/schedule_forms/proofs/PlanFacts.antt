-- The expansion of a plan: what it pays, its literals, and that it is closed.
use Rattle.std.proofs.Common.{◌≡◌, ℕ, zero, suc, ℤ, pos, neg_ℤ, ◌+ℤ◌, ◌+◌, ◌-◌, ◌<◌, ◌≤◌, max, [], length, map, Option, Some, None, refl, ap, ◌∙◌, arith}
use Rattle.std.specs.List.{range_with_len}
use Rattle.std.proofs.lemmas.Int.{ints}
use Rattle.std.proofs.lemmas.List.FromFn.{length-map-range_with_len}
use Rattle.decimal.specs.Rounding.{raised}
use Rattle.term_model.specs.Declarations.{Declarations}
use Rattle.term_model.specs.Limits.{IsOffset}
use Rattle.term_model.specs.declared.label.Label.{Label}
use Rattle.term_model.specs.declared.label.Label.TheVariants.{Number as NumberLabel, Flag}
use Rattle.term_model.specs.DayCounts.{Num as Count}
use Rattle.term_model.specs.declared.values.Kind.TheVariants.{Number}
use Rattle.term_model.specs.Terms.{Contract, After}
use Rattle.term_model.specs.WellFormed.{IsWellFormed, IsClosed, HasOnlyNumbers}
use Rattle.term_model.specs.Environments.{label_of}
use Rattle.term_model.specs.Kinds.{kind_of_label, on_number, on_numbers}
use Rattle.term_model.specs.Flows.{scale_of_contract}
use Rattle.term_model.specs.Literals.{HasLiteralsIn}
use Rattle.term_model.specs.Acceptance.{IsAccepted}
use Rattle.term_model.specs.Sites.{Trial, Site, AllPass, sites}
use Rattle.schedule_forms.specs.declared.plans.Size.{Size}
use Rattle.schedule_forms.specs.declared.plans.Size.TheVariants.{Fixed, Fixing}
use Rattle.schedule_forms.specs.declared.plans.Leg.{Leg}
use Rattle.schedule_forms.specs.declared.plans.Plan.{Plan}
use Rattle.schedule_forms.specs.declared.plans.Plan.TheVariants.{Leg as LegPlan, Swap, Guarded}
use Rattle.schedule_forms.specs.PaymentSizes.{expression_of_size, scale_of_size}
use Rattle.schedule_forms.specs.PaymentDays.{payment_day}
use Rattle.schedule_forms.specs.PlanLimits.{IsSizeWithinLimits, IsWithinLimits}
use Rattle.schedule_forms.specs.DeclaredPlans.{IsNumberLabel, IsSizeOver, IsLegOver}
use Rattle.schedule_forms.specs.PlanFlows.{plan_flow}
use Rattle.schedule_forms.specs.Expansions.{payment, payments, balanced, cover_payment, guarded, expansion}
use Rattle.schedule_forms.specs.LawsSchedules.{PaysAsPlanned, AcceptedExpansionsPay, DeclaredExpansionsPay, ExpansionsAreClosed}
use Rattle.schedule_forms.specs.ExpandedPlans.{IsWrittenFor}
use Rattle.schedule_forms.proofs.SmallFacts.{expansions_small}
use Rattle.schedule_forms.proofs.TreeFacts.{Each, each_left, each_right, tree_by}
use Rattle.schedule_forms.proofs.FlowFacts.{IsSized, leg_scale, leg_flows}
use Rattle.schedule_forms.proofs.GuardFacts.{starting, guarded_scale, guarded_flows}
use Rattle.schedule_forms.proofs.TrialFacts.{Tried, leg_tried, swap_tried, guard_tried, size_tried, cover_tried, sized_is}
use Rattle.schedule_forms.proofs.LiteralFacts.{number_literals, size_literals, leg_literals, guard_literals}

-- each size is a number of its own scale
abbrev pub AreSized : Declarations → Plan → Type 0
AreSized d (LegPlan leg) = IsSized d leg.size
AreSized d (Swap one two) = IsSized d one.size × IsSized d two.size
AreSized d (Guarded leg flag mant scale) = IsSized d leg.size

both_as : (i i' j j' : ℕ) (x x' y y' : ℤ) → i ≡ i' → j ≡ j' → x ≡ x' → y ≡ y' → raised x (max i j - i) +ℤ raised y (max i j - j) ≡ raised x' (max i' j' - i') +ℤ raised y' (max i' j' - j')
both_as i i' j j' x x' y y' hi hj hx hy = cc

-- a leg is itself from its first day on
as_started : (leg : Leg) → 0 < leg.times → starting leg leg.first (leg.times - 1) ≡ leg
as_started leg some =
    let whole : suc (leg.times - 1) ≡ leg.times = omega arith in
    ap (λ (n : ℕ). record leg { times = n }) whole

pub sized_pay : (d : Declarations) (plan : Plan) → IsWithinLimits plan → AreSized d plan → PaysAsPlanned d (expansion plan) plan
sized_pay d (LegPlan leg) h s =
    record { scale = leg_scale d leg h.some_times s; flows = λ env f n w. leg_flows d leg env f n w h.some_times h.some_days s }
sized_pay d (Swap one two) h s =
    let i = leg_scale d one h.0.some_times s.0 in
    let j = leg_scale d two h.1.some_times s.1 in
    record {
      scale = ap (λ (k : ℕ). max k (scale_of_contract d (balanced (payments two)) [])) i ∙ ap (λ (k : ℕ). max (scale_of_size one.size) k) j;
      flows = λ env f n w. both_as _ _ _ _ _ _ _ _ i j (leg_flows d one env f n w h.0.some_times h.0.some_days s.0) (leg_flows d two env f n w h.1.some_times h.1.some_days s.1);
    }
sized_pay d (Guarded leg flag mant scale) h s =
    record {
      scale = guarded_scale d leg flag mant scale leg.first (leg.times - 1) s;
      flows = λ env f n w.
          guarded_flows d leg flag mant scale env w h.some_days s (leg.times - 1) leg.first f n
          ∙ ap (λ (l : Leg). plan_flow d (Guarded l flag mant scale) env f n w) (as_started leg h.some_times);
    }

whole_tried : (P : Site → Type 0) (w : Trial) (c : Contract) → AllPass P (sites w c) → Tried P w c
whole_tried P w c h = record { layers = []; number = 0; passes = h }

pub accepted_sized : (d : Declarations) (plan : Plan) → IsWithinLimits plan → IsAccepted d (expansion plan) → AreSized d plan
accepted_sized d (LegPlan leg) h a = sized_is d leg.size (leg_tried _ _ leg h.some_times (whole_tried _ _ _ a.sorts))
accepted_sized d (Swap one two) h a =
    let parts = swap_tried _ _ _ _ (whole_tried _ _ _ a.sorts) in
    (sized_is d one.size (leg_tried _ _ one h.0.some_times parts.0), sized_is d two.size (leg_tried _ _ two h.1.some_times parts.1))
accepted_sized d (Guarded leg flag mant scale) h a =
    sized_is d leg.size (size_tried _ _ leg (guard_tried _ _ leg flag _ leg.first (leg.times - 1) (whole_tried _ _ _ a.sorts)).1)

pub accepted_literals : (d : Declarations) (plan : Plan) → IsWithinLimits plan → IsAccepted d (expansion plan) → HasLiteralsIn (expansion plan)
accepted_literals d (LegPlan leg) h a =
    leg_literals leg h.some_times
    (size_literals d leg.size (leg_tried _ _ leg h.some_times (whole_tried _ _ _ a.scales)) (leg_tried _ _ leg h.some_times (whole_tried _ _ _ a.bounds)))
accepted_literals d (Swap one two) h a =
    let scales = swap_tried _ _ _ _ (whole_tried _ _ _ a.scales) in
    let bounds = swap_tried _ _ _ _ (whole_tried _ _ _ a.bounds) in (
      leg_literals one h.0.some_times (size_literals d one.size (leg_tried _ _ one h.0.some_times scales.0) (leg_tried _ _ one h.0.some_times bounds.0)),
      leg_literals two h.1.some_times (size_literals d two.size (leg_tried _ _ two h.1.some_times scales.1) (leg_tried _ _ two h.1.some_times bounds.1)),
    )
accepted_literals d (Guarded leg flag mant scale) h a =
    let scales = guard_tried _ _ leg flag _ leg.first (leg.times - 1) (whole_tried _ _ _ a.scales) in
    let bounds = guard_tried _ _ leg flag _ leg.first (leg.times - 1) (whole_tried _ _ _ a.bounds) in
    guard_literals leg flag (cover_payment leg mant scale) leg.first (leg.times - 1)
    (size_literals d leg.size (size_tried _ _ leg scales.1) (size_tried _ _ leg bounds.1))
    (number_literals d mant scale (cover_tried _ _ leg mant scale scales.0) (cover_tried _ _ leg mant scale bounds.0), tt)

pub accepted_pay : AcceptedExpansionsPay
accepted_pay d plan h a = (accepted_literals d plan h a, sized_pay d plan h (accepted_sized d plan h a))

number_label : (o : Option Label) (scale i : ℕ) (f : ℕ → ℕ → ℕ) → IsNumberLabel o → on_number (λ _. Some (Number scale)) (on_numbers (λ s t. Some (Number (f s t))) (kind_of_label o) (Some (Number i))) ≡ Some (Number scale)
number_label None scale i f h = absurd h
number_label (Some Flag) scale i f h = absurd h
number_label (Some (NumberLabel s low high)) scale i f h = refl

over_sized : (d : Declarations) (size : Size) → IsSizeOver d size → IsSized d size
over_sized d (Fixed mant scale) h = refl
over_sized d (Fixing mode scale label lag mant i) h = number_label (label_of d label) scale i (λ s t. s + t) h.1

pub declared_pay : DeclaredExpansionsPay
declared_pay d (LegPlan leg) h over = sized_pay d (LegPlan leg) h (over_sized d leg.size over.size_over)
declared_pay d (Swap one two) h over =
    sized_pay d (Swap one two) h (over_sized d one.size over.0.size_over, over_sized d two.size over.1.size_over)
declared_pay d (Guarded leg flag mant scale) h over = sized_pay d (Guarded leg flag mant scale) h (over_sized d leg.size over.0.size_over)

past_offset : (lag : ℕ) → lag ≤ 1_000_000 → IsOffset (neg_ℤ (pos lag))
past_offset lag h = (omega (arith, ints), omega (arith, ints))

size_closed : (d : Declarations) (size : Size) → IsSizeWithinLimits size → IsSizeOver d size → IsWellFormed d 0 (expression_of_size size)
size_closed d (Fixed mant scale) h over = tt
size_closed d (Fixing mode scale label lag mant i) h over = ((over.0, past_offset lag h), tt)

-- closed, with numbers for day counts
abbrev pub IsPlain : Declarations → Contract → Type 0
IsPlain d c = IsClosed d c × HasOnlyNumbers c

payment_closed : (d : Declarations) (leg : Leg) → IsSizeWithinLimits leg.size → IsLegOver d leg → IsPlain d (payment leg)
payment_closed d leg h over = ((size_closed d leg.size h over.size_over, (over.asset_in, over.from_in, over.to_in)), tt)

each_closed : (d : Declarations) (leg : Leg) (a m : ℕ) → IsPlain d (payment leg) → Each (IsPlain d) (map (λ i. After (Count (payment_day leg i)) (payment leg)) (range_with_len a m))
each_closed d leg a zero h = tt
each_closed d leg a (suc m) h = (((tt, h.0), (tt, h.1)), each_closed d leg (a + 1) m h)

leg_closed : (d : Declarations) (leg : Leg) → 0 < leg.times → IsPlain d (payment leg) → IsPlain d (balanced (payments leg))
leg_closed d leg some h =
    let f : ℕ → Contract = λ i. After (Count (payment_day leg i)) (payment leg) in
    tree_by (λ cs c. Each (IsPlain d) cs → IsPlain d c) (λ c h. h.0)
    (λ xs ys a b even p q h.
    let left = p (each_left (IsPlain d) xs ys h) in
    let right = q (each_right (IsPlain d) xs ys h) in
    ((left.0, right.0), (left.1, right.1)))
    (payments leg) (omega (arith, length-map-range_with_len f 0 leg.times)) (each_closed d leg 0 leg.times h)

zero_offset : IsOffset (pos 0)
zero_offset = (omega (arith, ints), omega (arith, ints))

guard_closed : (d : Declarations) (leg : Leg) (flag : ℕ) (cover : Contract) (days m : ℕ) → flag < length d.labels → IsPlain d cover → IsPlain d (payment leg) → IsPlain d (guarded leg flag cover days m)
guard_closed d leg flag cover days zero declared k h = (((declared, zero_offset), tt, k.0, h.0), (tt, k.1, h.1))
guard_closed d leg flag cover days (suc m) declared k h =
    let further = guard_closed d leg flag cover leg.every m declared k h in
    (((declared, zero_offset), tt, k.0, (h.0, further.0)), (tt, k.1, (h.1, further.1)))

pub expansions_closed : ExpansionsAreClosed
expansions_closed d (LegPlan leg) h over = leg_closed d leg h.some_times (payment_closed d leg h.size_in over)
expansions_closed d (Swap one two) h over =
    let left = leg_closed d one h.0.some_times (payment_closed d one h.0.size_in over.0) in
    let right = leg_closed d two h.1.some_times (payment_closed d two h.1.size_in over.1) in
    ((left.0, right.0), (left.1, right.1))
expansions_closed d (Guarded leg flag mant scale) h over =
    guard_closed d leg flag (cover_payment leg mant scale) leg.first (leg.times - 1) over.1
    ((tt, (over.0.asset_in, over.0.to_in, over.0.from_in)), tt) (payment_closed d leg h.size_in over.0)

pub written_for : (plan : Plan) → IsWithinLimits plan → IsWrittenFor plan (expansion plan)
written_for plan h =
    record {
      height = (expansions_small plan h).0;
      nodes = (expansions_small plan h).1;
      closed = λ d over. expansions_closed d plan h over;
      declared = λ d over. declared_pay d plan h over;
      accepted = λ d a. accepted_pay d plan h a;
    }
