-- What a plan pays on each own day, between two parties in an asset, in units of the plan's scale: a leg its size on
-- each of its days; a swap what its legs pay together; a guarded plan what its leg pays before the first day on which
-- the flag is true, and on that day the cover, from the leg's receiver to its payer.
use Rattle.std.specs.Prelude.{ℕ, ℤ, pos, ◌+ℤ◌, ◌*ℤ◌, int_lt, ◌-◌, max, Option, Some, None, if◌then◌else◌}
use Rattle.std.specs.Ordering.{int_eq}
use Rattle.decimal.specs.Rounding.{raised}
use Rattle.term_model.specs.Declarations.{Declarations}
use Rattle.term_model.specs.Environments.{Environment, observed}
use Rattle.term_model.specs.Values.{truth, first_of}
use Rattle.term_model.specs.Flows.{Flow, unit_flow}
use Rattle.schedule_forms.specs.declared.plans.Leg.{Leg}
use Rattle.schedule_forms.specs.declared.plans.Plan.{Plan}
use Rattle.schedule_forms.specs.declared.plans.Plan.TheVariants.{Leg as LegPlan, Swap, Guarded}
use Rattle.schedule_forms.specs.PaymentSizes.{scale_of_size, size_on}
use Rattle.schedule_forms.specs.PaymentDays.{last_day, pays_on}

-- the scale of a plan
abbrev pub scale_of_plan : Plan → ℕ
scale_of_plan (LegPlan leg) = scale_of_size leg.size
scale_of_plan (Swap one two) = max (scale_of_size one.size) (scale_of_size two.size)
scale_of_plan (Guarded leg flag mant scale) = max scale (scale_of_size leg.size)

-- the flow of a leg on its own day n, on frame f
abbrev pub leg_flow : Declarations → Leg → Environment → ℤ → ℤ → Flow → ℤ
leg_flow d leg env f n w =
    if pays_on leg n then size_on d leg.size env (f +ℤ n) *ℤ unit_flow leg.asset leg.from leg.to w else pos 0

-- the first own day on which a flag is true, up to a last one
abbrev pub first_true_day : Declarations → ℕ → Environment → ℤ → ℕ → Option ℕ
first_true_day d flag env f last = first_of last (λ i. truth (observed d env flag (f +ℤ pos i)))

-- the flow of a plan on its own day n, on frame f
abbrev pub plan_flow : Declarations → Plan → Environment → ℤ → ℤ → Flow → ℤ
plan_flow d (LegPlan leg) env f n w = leg_flow d leg env f n w
plan_flow d (Swap one two) env f n w =
    let s = scale_of_plan (Swap one two) in
    raised (leg_flow d one env f n w) (s - scale_of_size one.size)
    +ℤ raised (leg_flow d two env f n w) (s - scale_of_size two.size)
plan_flow d (Guarded leg flag mant scale) env f n w =
    let s = scale_of_plan (Guarded leg flag mant scale) in
    let paid = raised (leg_flow d leg env f n w) (s - scale_of_size leg.size) in
    let cover = raised (mant *ℤ unit_flow leg.asset leg.to leg.from w) (s - scale) in
    elim (first_true_day d flag env f (last_day leg)) [
      | Some g ↦ if int_lt n (pos g) then paid else (if int_eq n (pos g) then cover else pos 0)
      | None ↦ paid
    ]
