-- The contract that a plan is written for: the payments of a leg in a balanced tree, so that it is not high, and under a
-- guard one after the other, each behind a test of the flag over the days up to it.
use Rattle.std.specs.Prelude.{ℕ, zero, suc, ℤ, pos, ◌+◌, ◌-◌, ◌/◌, List, [], ◌∷◌, length, take, drop, map}
use Rattle.term_model.specs.DayCounts.{Num as Count}
use Rattle.term_model.specs.Terms.{Contract, Zero, Pay, Both, Scale, After, Within, Lit, Obs}
use Rattle.schedule_forms.specs.declared.plans.Leg.{Leg}
use Rattle.schedule_forms.specs.declared.plans.Plan.{Plan}
use Rattle.schedule_forms.specs.declared.plans.Plan.TheVariants.{Leg as LegPlan, Swap, Guarded}
use Rattle.schedule_forms.specs.PaymentSizes.{expression_of_size}
use Rattle.schedule_forms.specs.PaymentDays.{payment_day, payment_numbers}

-- one payment of a leg, on the day on which it is made
abbrev pub payment : Leg → Contract
payment leg = Scale (expression_of_size leg.size) (Pay leg.asset leg.from leg.to)

-- payment i of a leg, after its days
abbrev pub dated_payment : Leg → ℕ → Contract
dated_payment leg i = After (Count (payment_day leg i)) (payment leg)

abbrev pub payments : Leg → List Contract
payments leg = map (dated_payment leg) (payment_numbers leg)

-- the first half of a list has the odd one
abbrev pub half : List Contract → ℕ
half cs = (length cs + 1) / 2

-- contracts together, in a tree that is halved at most so many times; no list is longer than its tree is deep
abbrev pub balanced_upto : ℕ → List Contract → Contract
balanced_upto deep [] = Zero
balanced_upto deep (c ∷ []) = c
balanced_upto zero (c ∷ e ∷ cs) = Zero
balanced_upto (suc deep) (c ∷ e ∷ cs) =
    let all = c ∷ e ∷ cs in
    Both (balanced_upto deep (take (half all) all)) (balanced_upto deep (drop (half all) all))

-- contracts together: one is itself, and more are those of the first half and those of the rest (`TreesHalve`)
abbrev pub balanced : List Contract → Contract
balanced cs = balanced_upto (length cs) cs

-- the cover, from the receiver of a leg to its payer
abbrev pub cover_payment : Leg → ℤ → ℕ → Contract
cover_payment leg mant scale = Scale (Lit mant scale) (Pay leg.asset leg.to leg.from)

-- the next payment of a leg, so many days from here, and further ones behind it, unless the flag is true before
abbrev pub guarded : Leg → ℕ → Contract → ℕ → ℕ → Contract
guarded leg flag cover days zero = Within (Obs flag (pos 0)) (Count days) cover (payment leg)
guarded leg flag cover days (suc further) =
    Within (Obs flag (pos 0)) (Count days) cover (Both (payment leg) (guarded leg flag cover leg.every further))

abbrev pub expansion : Plan → Contract
expansion (LegPlan leg) = balanced (payments leg)
expansion (Swap one two) = Both (balanced (payments one)) (balanced (payments two))
expansion (Guarded leg flag mant scale) = guarded leg flag (cover_payment leg mant scale) leg.first (leg.times - 1)
