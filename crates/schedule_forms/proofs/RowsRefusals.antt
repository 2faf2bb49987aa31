-- Worked rows of acceptance: a guarded plan's expansion is accepted; and plans within the limits whose expansions are
-- refused, by scale, size or bound. Nodes are counted in the expansion.
use Rattle.std.proofs.Common.{pos, ◌^◌}
use Rattle.decimal.specs.declared.Mode.TheVariants.{HalfEven}
use Rattle.term_model.specs.declared.rules.Rule.TheVariants.{Scale as ScaleRule, Size as SizeRule, Bound}
use Rattle.term_model.specs.Sites.{Once, EachDay, sites}
use Rattle.term_model.specs.Scales.{is_scaled}
use Rattle.term_model.specs.Smallness.{is_small}
use Rattle.term_model.specs.Bounds.{is_bounded}
use Rattle.term_model.specs.Acceptance.{IsAccepted, FailsAt, Meets}
use Rattle.term_model.proofs.Trials.{first_failing-is}
use Rattle.schedule_forms.specs.declared.plans.Size.TheVariants.{Fixed, Fixing}
use Rattle.schedule_forms.specs.declared.plans.Leg.{Leg}
use Rattle.schedule_forms.specs.declared.plans.Plan.{Plan}
use Rattle.schedule_forms.specs.declared.plans.Plan.TheVariants.{Leg as LegPlan, Swap, Guarded}
use Rattle.schedule_forms.specs.Expansions.{expansion}
use Rattle.schedule_forms.proofs.SortedFacts.{sorted_and_timed}
use Rattle.schedule_forms.proofs.RowsPlans.{with_fx, with_flag, guarded_plan, guarded_is_of_texts}

guarded_is_accepted : IsAccepted with_flag (expansion guarded_plan)
guarded_is_accepted =
    let plan = guarded_is_of_texts in
    let sound = sorted_and_timed with_flag guarded_plan plan.within plan.over in
    record {
      sorts = sound.0;
      times = sound.1;
      scales = first_failing-is (is_scaled with_flag) (sites Once (expansion guarded_plan));
      sizes = first_failing-is is_small (sites Once (expansion guarded_plan));
      bounds = first_failing-is (is_bounded with_flag) (sites EachDay (expansion guarded_plan));
    }

-- one payment of 0.001 of EUR on day 30, where amounts have two decimals
abbrev fine_leg : Leg
fine_leg = record { size = Fixed (pos 1) 3; asset = 0; from = 0; to = 1; first = 30; every = 1; times = 1 }

fine_size_is_refused : FailsAt with_fx ScaleRule (expansion (LegPlan fine_leg)) 1
fine_size_is_refused = first_failing-is (is_scaled with_fx) (sites Once (expansion (LegPlan fine_leg)))

-- a cover of 0.001
abbrev fine_cover : Plan
fine_cover = Guarded (record fine_leg { size = Fixed (pos 100) 2 }) 0 (pos 1) 3

fine_cover_is_refused : FailsAt with_flag ScaleRule (expansion fine_cover) 2
fine_cover_is_refused = first_failing-is (is_scaled with_flag) (sites Once (expansion fine_cover))

-- a label of 4 decimals times a notional of 24
abbrev fine_notional : Leg
fine_notional = record fine_leg { size = Fixing HalfEven 2 0 0 (pos 1) 24 }

fine_notional_is_refused : FailsAt with_fx ScaleRule (expansion (LegPlan fine_notional)) 3
fine_notional_is_refused = first_failing-is (is_scaled with_fx) (sites Once (expansion (LegPlan fine_notional)))

-- a rate of up to 2.0000 times a notional of 10^37 units
abbrev great_notional : Leg
great_notional = record fine_leg { size = Fixing HalfEven 2 0 0 (pos (10 ^ 37)) 2 }

great_notional_is_refused : FailsAt with_fx Bound (expansion (LegPlan great_notional)) 3
great_notional_is_refused = first_failing-is (is_bounded with_fx) (sites EachDay (expansion (LegPlan great_notional)))

-- the last day of one leg and the lag of the other come to more than 1,000,000 days, and those of neither alone
abbrev late_leg : Leg
late_leg = record fine_leg { size = Fixed (pos 100) 2; first = 100_000 }

abbrev lagging_leg : Leg
lagging_leg = record fine_leg { size = Fixing HalfEven 2 0 950_000 (pos 1000) 2 }

late_leg_is_small : Meets with_fx SizeRule (expansion (LegPlan late_leg))
late_leg_is_small = first_failing-is is_small (sites Once (expansion (LegPlan late_leg)))

lagging_leg_is_small : Meets with_fx SizeRule (expansion (LegPlan lagging_leg))
lagging_leg_is_small = first_failing-is is_small (sites Once (expansion (LegPlan lagging_leg)))

days_of_both_are_refused : FailsAt with_fx SizeRule (expansion (Swap late_leg lagging_leg)) 0
days_of_both_are_refused = first_failing-is is_small (sites Once (expansion (Swap late_leg lagging_leg)))
