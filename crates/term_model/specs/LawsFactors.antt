-- The law of factors: what a curve answers at an offset is a factor, where the stated one for a day gone by is.
use Rattle.std.specs.Prelude.{ℤ, List}
use Rattle.term_model.specs.Factors.{CurveRow, IsCurve, IsFactor, discount_factor}

abbrev pub CurvesAnswerFactors : Type 0
CurvesAnswerFactors = (rows : List CurveRow) (w o : ℤ) → IsCurve rows → IsFactor w → IsFactor (discount_factor rows w o)
