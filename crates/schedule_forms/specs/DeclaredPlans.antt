-- A plan is over declarations if all that it names is declared: assets and parties, for an observed size a number, and
-- for a guard a flag.
use Rattle.std.specs.Prelude.{◌<◌, length, Option, Some}
use Rattle.term_model.specs.Declarations.{Declarations}
use Rattle.term_model.specs.Environments.{label_of}
use Rattle.term_model.specs.declared.label.Label.{Label}
use Rattle.term_model.specs.declared.label.Label.TheVariants.{Number, Flag}
use Rattle.schedule_forms.specs.declared.plans.Size.{Size}
use Rattle.schedule_forms.specs.declared.plans.Size.TheVariants.{Fixed, Fixing}
use Rattle.schedule_forms.specs.declared.plans.Leg.{Leg}
use Rattle.schedule_forms.specs.declared.plans.Plan.{Plan}
use Rattle.schedule_forms.specs.declared.plans.Plan.TheVariants.{Leg as LegPlan, Swap, Guarded}
use Rattle.schedule_forms.specs.PlanLimits.{IsWithinLimits, HasNumbersOfTexts}

abbrev pub IsNumberLabel : Option Label → Type 0
IsNumberLabel (Some (Number scale low high)) = Unit {0}
IsNumberLabel _ = ⊥

abbrev pub IsFlagLabel : Option Label → Type 0
IsFlagLabel (Some Flag) = Unit {0}
IsFlagLabel _ = ⊥

abbrev pub IsSizeOver : Declarations → Size → Type 0
IsSizeOver d (Fixed mant scale) = Unit {0}
IsSizeOver d (Fixing mode scale label lag mant mant_scale) = (label < length d.labels) × IsNumberLabel (label_of d label)

pub record IsLegOver (d : Declarations) (leg : Leg) : Type 0 where
  pub size_over : IsSizeOver d leg.size
  pub asset_in : leg.asset < length d.assets
  pub from_in : leg.from < length d.parties
  pub to_in : leg.to < length d.parties

abbrev pub IsPlanOver : Declarations → Plan → Type 0
IsPlanOver d (LegPlan leg) = IsLegOver d leg
IsPlanOver d (Swap one two) = IsLegOver d one × IsLegOver d two
IsPlanOver d (Guarded leg flag mant scale) = IsLegOver d leg × (flag < length d.labels) × IsFlagLabel (label_of d flag)

-- what every plan of a text is: within the limits, of numbers of texts, and over the text's declarations
pub record IsPlanOfTexts (d : Declarations) (plan : Plan) : Type 0 where
  pub within : IsWithinLimits plan
  pub numbers : HasNumbersOfTexts plan
  pub over : IsPlanOver d plan
