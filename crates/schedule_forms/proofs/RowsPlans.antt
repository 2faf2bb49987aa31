-- Worked rows of plans: a swap of a fixed size against an observed one, a leg guarded by a flag, and their edges, each by
-- what the plan says and by what its expansion pays. Parties A, B and C are 0, 1 and 2, and the asset EUR is 0.
use Rattle.std.proofs.Common.{◌≡◌, ℕ, ℤ, pos, neg_ℤ, ◌∷◌, [], None, Some, true, false, refl, codes, arith}
use Rattle.decimal.specs.Rounding.{at_scale}
use Rattle.decimal.specs.declared.Mode.TheVariants.{HalfEven}
use Rattle.term_model.specs.Declarations.{Declarations}
use Rattle.term_model.specs.declared.label.Label.{Label}
use Rattle.term_model.specs.declared.label.Label.TheVariants.{Number, Flag}
use Rattle.term_model.specs.DayCounts.{Num as Count}
use Rattle.term_model.specs.declared.terms.NumOp.TheVariants.{Times}
use Rattle.term_model.specs.declared.values.Value.TheVariants.{Num as Amount, Truth}
use Rattle.term_model.specs.Terms.{Contract, Pay, Both, Scale, After, Within, Lit, Obs, Num, Round}
use Rattle.term_model.specs.Environments.{Environment}
use Rattle.term_model.specs.Flows.{Flow, amount_of, flow_of}
use Rattle.schedule_forms.specs.declared.plans.Size.TheVariants.{Fixed, Fixing}
use Rattle.schedule_forms.specs.declared.plans.Leg.{Leg}
use Rattle.schedule_forms.specs.declared.plans.Plan.{Plan}
use Rattle.schedule_forms.specs.declared.plans.Plan.TheVariants.{Leg as LegPlan, Swap, Guarded}
use Rattle.schedule_forms.specs.PaymentDays.{last_day, pays_on}
use Rattle.schedule_forms.specs.PlanLimits.{IsLegWithinLimits}
use Rattle.schedule_forms.specs.DeclaredPlans.{IsPlanOfTexts}
use Rattle.schedule_forms.specs.PlanFlows.{first_true_day, plan_flow}
use Rattle.schedule_forms.specs.Expansions.{balanced, expansion}

-- amounts 2; party A, B, C; asset EUR; and one observable
abbrev pub with_label : Label → Declarations
with_label label =
    record {
      version = 1;
      amounts = 2;
      origin = None;
      start = 0;
      parties = codes "A" ∷ codes "B" ∷ codes "C" ∷ [];
      assets = record { 0 = codes "EUR"; 1 = 2 } ∷ [];
      labels = record { 0 = codes "X"; 1 = label } ∷ [];
      templates = [];
    }

abbrev a_to_b : Flow
a_to_b = record { from = 0; to = 1; asset = 0 }

abbrev b_to_a : Flow
b_to_a = record { from = 1; to = 0; asset = 0 }

abbrev a_to_a : Flow
a_to_a = record { from = 0; to = 0; asset = 0 }

abbrev a_to_c : Flow
a_to_c = record { from = 0; to = 2; asset = 0 }

-- what a plan pays on its own day n from day 0 on, and what its expansion pays, at the plan's scale
abbrev planned : Declarations → Plan → Environment → ℕ → Flow → ℤ
planned d plan env n w = plan_flow d plan env (pos 0) (pos n) w

abbrev paid : Declarations → Plan → Environment → ℕ → Flow → ℤ
paid d plan env n w = flow_of d (expansion plan) [] env (pos 0) (pos n) w

-- 2.00 of EUR from A to B first 30 every 30 times 2
abbrev fixed_leg : Leg
fixed_leg = record { size = Fixed (pos 200) 2; asset = 0; from = 0; to = 1; first = 30; every = 30; times = 2 }

-- round(half_even, 2, FX, 0, 10.00) of EUR from B to A first 30 every 30 times 2
abbrev floating_leg : Leg
floating_leg =
    record { size = Fixing HalfEven 2 0 0 (pos 1000) 2; asset = 0; from = 1; to = 0; first = 30; every = 30; times = 2 }

abbrev swap : Plan
swap = Swap fixed_leg floating_leg

-- label FX : number(4, 0.5000, 2.0000)
abbrev pub with_fx : Declarations
with_fx = with_label (Number 4 (pos 5000) (pos 20000))

-- its numbers are those of texts, and all that it names is declared
fixed_is_small : IsLegWithinLimits 5_000 fixed_leg
fixed_is_small =
    record {
      size_in = tt;
      first_in = omega arith;
      some_days = omega arith;
      every_in = omega arith;
      some_times = omega arith;
      few_times = omega arith;
      last_in = omega arith;
    }

floating_is_small : IsLegWithinLimits 5_000 floating_leg
floating_is_small =
    record {
      size_in = omega arith;
      first_in = omega arith;
      some_days = omega arith;
      every_in = omega arith;
      some_times = omega arith;
      few_times = omega arith;
      last_in = omega arith;
    }

swap_is_of_texts : IsPlanOfTexts with_fx swap
swap_is_of_texts =
    record {
      within = (fixed_is_small, floating_is_small);
      numbers = ((omega arith, omega arith), ((omega arith, omega arith), omega arith));
      over = (
        record { size_over = tt; asset_in = omega arith; from_in = omega arith; to_in = omega arith },
        record { size_over = (omega arith, tt); asset_in = omega arith; from_in = omega arith; to_in = omega arith },
      );
    }

-- FX is 1.2000 on day 30 and 1.1000 on day 60
abbrev rates : Environment
rates =
    record { 0 = record { label = 0; day = pos 30 }; 1 = Amount (pos 12000) }
    ∷ record { 0 = record { label = 0; day = pos 60 }; 1 = Amount (pos 11000) } ∷ []

abbrev fixed_payment : ℕ → Contract
fixed_payment day = After (Count day) (Scale (Lit (pos 200) 2) (Pay 0 0 1))

abbrev floating_payment : ℕ → Contract
floating_payment day = After (Count day) (Scale (Round HalfEven 2 (Num Times (Obs 0 (pos 0)) (Lit (pos 1000) 2))) (Pay 0 1 0))

swap_is_written : expansion swap ≡ Both (Both (fixed_payment 30) (fixed_payment 60)) (Both (floating_payment 30) (floating_payment 60))
swap_is_written = refl

swap_on_30 : planned with_fx swap rates 30 b_to_a ≡ pos 1000
unfolding at_scale
swap_on_30 = refl

swap_on_60 : planned with_fx swap rates 60 b_to_a ≡ pos 900
unfolding at_scale
swap_on_60 = refl

swap_between : planned with_fx swap rates 45 b_to_a ≡ pos 0
swap_between = refl

swap_pays_on_30 : amount_of with_fx (expansion swap) rates (pos 0) (pos 30) b_to_a ≡ pos 1000
unfolding at_scale
swap_pays_on_30 = refl

swap_pays_on_60 : amount_of with_fx (expansion swap) rates (pos 0) (pos 60) b_to_a ≡ pos 900
unfolding at_scale
swap_pays_on_60 = refl

-- 3 of EUR, without decimals, from A to B against 0.50 from B to A: 2.50 from A to B
abbrev apart_in_scale : Plan
apart_in_scale = Swap (record fixed_leg { size = Fixed (pos 3) 0 }) (record fixed_leg { size = Fixed (pos 50) 2; from = 1; to = 0 })

lower_leg_is_widened : planned with_fx apart_in_scale [] 30 a_to_b ≡ pos 250
lower_leg_is_widened = refl

lower_leg_pays_widened : paid with_fx apart_in_scale [] 30 a_to_b ≡ pos 250
lower_leg_pays_widened = refl

-- and so where the second leg has fewer decimals
abbrev apart_the_other_way : Plan
apart_the_other_way = Swap (record fixed_leg { size = Fixed (pos 50) 2; from = 1; to = 0 }) (record fixed_leg { size = Fixed (pos 3) 0 })

other_leg_is_widened : planned with_fx apart_the_other_way [] 60 b_to_a ≡ neg_ℤ (pos 250)
other_leg_is_widened = refl

other_leg_pays_widened : paid with_fx apart_the_other_way [] 60 b_to_a ≡ neg_ℤ (pos 250)
other_leg_pays_widened = refl

-- a size is observed some days before it is paid: on day 28 for day 30
abbrev lagging_leg : Leg
lagging_leg = record floating_leg { size = Fixing HalfEven 2 0 2 (pos 1000) 2 }

lag_looks_back : planned with_fx (LegPlan lagging_leg) (record { 0 = record { label = 0; day = pos 28 }; 1 = Amount (pos 13000) } ∷ []) 30 b_to_a ≡ pos 1300
unfolding at_scale
lag_looks_back = refl

-- 1.00 of EUR from A to B first 10 every 10 times 3 until D covers 50.00
abbrev pub three_payments : Leg
three_payments = record { size = Fixed (pos 100) 2; asset = 0; from = 0; to = 1; first = 10; every = 10; times = 3 }

abbrev pub guarded_plan : Plan
guarded_plan = Guarded three_payments 0 (pos 5000) 2

-- flag D
abbrev pub with_flag : Declarations
with_flag = with_label Flag

three_are_small : IsLegWithinLimits 60 three_payments
three_are_small =
    record {
      size_in = tt;
      first_in = omega arith;
      some_days = omega arith;
      every_in = omega arith;
      some_times = omega arith;
      few_times = omega arith;
      last_in = omega arith;
    }

pub guarded_is_of_texts : IsPlanOfTexts with_flag guarded_plan
guarded_is_of_texts =
    record {
      within = three_are_small;
      numbers = ((omega arith, omega arith), (omega arith, omega arith));
      over = (record { size_over = tt; asset_in = omega arith; from_in = omega arith; to_in = omega arith }, omega arith, tt);
    }

-- D is true on a day, and false on all others
abbrev true_on : ℕ → Environment
true_on day = record { 0 = record { label = 0; day = pos day }; 1 = Truth true } ∷ []

abbrev payment_or : ℕ → Contract → Contract
payment_or days rest = Within (Obs 0 (pos 0)) (Count days) (Scale (Lit (pos 5000) 2) (Pay 0 1 0)) rest

abbrev one_unit : Contract
one_unit = Scale (Lit (pos 100) 2) (Pay 0 0 1)

guarded_is_written : expansion guarded_plan ≡ payment_or 10 (Both one_unit (payment_or 10 (Both one_unit (payment_or 10 one_unit))))
guarded_is_written = refl

-- before the flag's day, on it and behind it
pays_before : planned with_flag guarded_plan (true_on 15) 10 a_to_b ≡ pos 100
pays_before = refl

covers_then : planned with_flag guarded_plan (true_on 15) 15 b_to_a ≡ pos 5000
covers_then = refl

pays_nothing_after : planned with_flag guarded_plan (true_on 15) 20 a_to_b ≡ pos 0
pays_nothing_after = refl

expansion_pays_before : paid with_flag guarded_plan (true_on 15) 10 a_to_b ≡ pos 100
expansion_pays_before = refl

expansion_covers_then : paid with_flag guarded_plan (true_on 15) 15 b_to_a ≡ pos 5000
expansion_covers_then = refl

expansion_pays_nothing_after : paid with_flag guarded_plan (true_on 15) 20 a_to_b ≡ pos 0
expansion_pays_nothing_after = refl

-- on a payment day the cover is paid, and no payment
covers_on_a_payment_day : planned with_flag guarded_plan (true_on 10) 10 b_to_a ≡ pos 5000
covers_on_a_payment_day = refl

nothing_behind_it : planned with_flag guarded_plan (true_on 10) 20 a_to_b ≡ pos 0
nothing_behind_it = refl

expansion_covers_on_a_payment_day : paid with_flag guarded_plan (true_on 10) 10 b_to_a ≡ pos 5000
expansion_covers_on_a_payment_day = refl

expansion_nothing_behind_it : paid with_flag guarded_plan (true_on 10) 20 a_to_b ≡ pos 0
expansion_nothing_behind_it = refl

-- today counts, and so does the last day; no day behind it is looked at
covers_today : planned with_flag guarded_plan (true_on 0) 0 b_to_a ≡ pos 5000
covers_today = refl

expansion_covers_today : paid with_flag guarded_plan (true_on 0) 0 b_to_a ≡ pos 5000
expansion_covers_today = refl

covers_on_the_last_day : planned with_flag guarded_plan (true_on 30) 30 b_to_a ≡ pos 5000
covers_on_the_last_day = refl

expansion_covers_on_the_last_day : paid with_flag guarded_plan (true_on 30) 30 b_to_a ≡ pos 5000
expansion_covers_on_the_last_day = refl

too_late : planned with_flag guarded_plan (true_on 31) 31 b_to_a ≡ pos 0
too_late = refl

expansion_too_late : paid with_flag guarded_plan (true_on 31) 31 b_to_a ≡ pos 0
expansion_too_late = refl

never_true : planned with_flag guarded_plan [] 30 a_to_b ≡ pos 100
never_true = refl

expansion_never_true : paid with_flag guarded_plan [] 30 a_to_b ≡ pos 100
expansion_never_true = refl

-- of two days on which the flag is true the first counts
first_of_two : first_true_day with_flag 0 (record { 0 = record { label = 0; day = pos 25 }; 1 = Truth true } ∷ true_on 15) (pos 0) 30 ≡ Some 15
first_of_two = refl

-- a size without decimals is widened to the cover's
abbrev in_whole_units : Plan
in_whole_units = Guarded (record three_payments { size = Fixed (pos 1) 0 }) 0 (pos 5000) 2

size_is_widened : planned with_flag in_whole_units [] 20 a_to_b ≡ pos 100
size_is_widened = refl

size_pays_widened : paid with_flag in_whole_units [] 20 a_to_b ≡ pos 100
size_pays_widened = refl

-- and a cover without decimals to the size's
abbrev covered_in_whole_units : Plan
covered_in_whole_units = Guarded three_payments 0 (pos 50) 0

cover_is_widened : planned with_flag covered_in_whole_units (true_on 5) 5 b_to_a ≡ pos 5000
cover_is_widened = refl

cover_pays_widened : paid with_flag covered_in_whole_units (true_on 5) 5 b_to_a ≡ pos 5000
cover_pays_widened = refl

-- between one party and itself nothing is paid, be it a payment or the cover
abbrev to_oneself : Plan
to_oneself = Guarded (record three_payments { to = 0 }) 0 (pos 5000) 2

nothing_to_oneself : planned with_flag to_oneself (true_on 15) 10 a_to_a ≡ pos 0
nothing_to_oneself = refl

no_cover_to_oneself : planned with_flag to_oneself (true_on 15) 15 a_to_a ≡ pos 0
no_cover_to_oneself = refl

expansion_nothing_to_oneself : paid with_flag to_oneself (true_on 15) 10 a_to_a ≡ pos 0
expansion_nothing_to_oneself = refl

expansion_no_cover_to_oneself : paid with_flag to_oneself (true_on 15) 15 a_to_a ≡ pos 0
expansion_no_cover_to_oneself = refl

-- and nothing to a third party
nothing_to_others : planned with_flag guarded_plan [] 10 a_to_c ≡ pos 0
nothing_to_others = refl

-- a leg may begin today and run for long
abbrev long_leg : Leg
long_leg = record { size = Fixed (pos 100) 2; asset = 0; from = 0; to = 1; first = 0; every = 20; times = 5_000 }

long_last : last_day long_leg ≡ 99_980
long_last = refl

pays_today : pays_on long_leg (pos 0) ≡ true
pays_today = refl

pays_on_its_last_day : pays_on long_leg (pos 99_980) ≡ true
pays_on_its_last_day = refl

not_behind_it : pays_on long_leg (pos 100_000) ≡ false
not_behind_it = refl

-- five contracts: three and two, and of three two and one
abbrev pay : ℕ → Contract
pay asset = Pay asset 0 1

five_together : balanced (pay 0 ∷ pay 1 ∷ pay 2 ∷ pay 3 ∷ pay 4 ∷ []) ≡ Both (Both (Both (pay 0) (pay 1)) (pay 2)) (Both (pay 3) (pay 4))
five_together = refl
