-- What a leg pays each time, as an expression of the contract language: a number, or what was observed some days
-- before, times a notional, rounded by a mode to a scale. Its value on a day is the size of a payment on that day.
use Rattle.std.specs.Prelude.{ℕ, ℤ, pos, neg_ℤ, []}
use Rattle.schedule_forms.specs.declared.plans.Size.{Size}
use Rattle.schedule_forms.specs.declared.plans.Size.TheVariants.{Fixed, Fixing}
use Rattle.term_model.specs.declared.terms.NumOp.TheVariants.{Times}
use Rattle.term_model.specs.Declarations.{Declarations}
use Rattle.term_model.specs.Terms.{Expression, Lit, Obs, Num, Round}
use Rattle.term_model.specs.Environments.{Environment}
use Rattle.term_model.specs.Values.{num, value_of}

abbrev pub expression_of_size : Size → Expression
expression_of_size (Fixed mant scale) = Lit mant scale
expression_of_size (Fixing mode scale label lag mant mant_scale) =
    Round mode scale (Num Times (Obs label (neg_ℤ (pos lag))) (Lit mant mant_scale))

abbrev pub scale_of_size : Size → ℕ
scale_of_size (Fixed mant scale) = scale
scale_of_size (Fixing mode scale label lag mant mant_scale) = scale

-- the size on a day, in units of its scale
abbrev pub size_on : Declarations → Size → Environment → ℤ → ℤ
size_on d size env day = num (value_of d (expression_of_size size) [] env day)
