-- The limits of a plan's numbers: a first day of at most 100,000, 1 to 100,000 days from one payment to the next, 1 to
-- 5,000 payments and under a guard 1 to 60, a lag of at most 1,000,000 days, and a last day of at most 100,000. In a text
-- a number has besides a mantissa of at most 10^37 in size and at most 27 decimals, and is rounded to at most 27.
use Rattle.std.specs.Prelude.{ℕ, ℤ, ◌<◌, ◌≤◌, unsigned_abs}
use Rattle.decimal.specs.Mantissas.{greatest_mantissa}
use Rattle.schedule_forms.specs.declared.plans.Size.{Size}
use Rattle.schedule_forms.specs.declared.plans.Size.TheVariants.{Fixed, Fixing}
use Rattle.schedule_forms.specs.declared.plans.Leg.{Leg}
use Rattle.schedule_forms.specs.declared.plans.Plan.{Plan}
use Rattle.schedule_forms.specs.declared.plans.Plan.TheVariants.{Leg as LegPlan, Swap, Guarded}
use Rattle.schedule_forms.specs.PaymentDays.{last_day}

abbrev pub IsSizeWithinLimits : Size → Type 0
IsSizeWithinLimits (Fixed mant scale) = Unit {0}
IsSizeWithinLimits (Fixing mode scale label lag mant mant_scale) = lag ≤ 1_000_000

-- of at most so many payments
pub record IsLegWithinLimits (most : ℕ) (leg : Leg) : Type 0 where
  pub size_in : IsSizeWithinLimits leg.size
  pub first_in : leg.first ≤ 100_000
  pub some_days : 0 < leg.every
  pub every_in : leg.every ≤ 100_000
  pub some_times : 0 < leg.times
  pub few_times : leg.times ≤ most
  pub last_in : last_day leg ≤ 100_000

abbrev pub IsWithinLimits : Plan → Type 0
IsWithinLimits (LegPlan leg) = IsLegWithinLimits 5_000 leg
IsWithinLimits (Swap one two) = IsLegWithinLimits 5_000 one × IsLegWithinLimits 5_000 two
IsWithinLimits (Guarded leg flag mant scale) = IsLegWithinLimits 60 leg

-- a decimal number of a text
abbrev pub IsDecimalOfTexts : ℤ → ℕ → Type 0
IsDecimalOfTexts mant scale = (unsigned_abs mant ≤ greatest_mantissa) × (scale ≤ 27)

abbrev pub IsSizeOfTexts : Size → Type 0
IsSizeOfTexts (Fixed mant scale) = IsDecimalOfTexts mant scale
IsSizeOfTexts (Fixing mode scale label lag mant mant_scale) = IsDecimalOfTexts mant mant_scale × (scale ≤ 27)

-- each number of a plan is one of texts
abbrev pub HasNumbersOfTexts : Plan → Type 0
HasNumbersOfTexts (LegPlan leg) = IsSizeOfTexts leg.size
HasNumbersOfTexts (Swap one two) = IsSizeOfTexts one.size × IsSizeOfTexts two.size
HasNumbersOfTexts (Guarded leg flag mant scale) = IsSizeOfTexts leg.size × IsDecimalOfTexts mant scale
