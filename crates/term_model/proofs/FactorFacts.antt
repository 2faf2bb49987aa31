-- What a curve answers is a factor.
use Rattle.std.proofs.Common.{ℤ, pos, Bool, true, false, if◌then◌else◌, int_lt, List, [], ◌∷◌}
use Rattle.term_model.specs.Factors.{CurveRow, IsFactor, HasFactors, last_factor}
use Rattle.term_model.specs.LawsFactors.{CurvesAnswerFactors}

either_factor : (b : Bool) (v w : ℤ) → IsFactor v → IsFactor w → IsFactor (if b then v else w)
either_factor true v w h k = h
either_factor false v w h k = k

last_is_factor : (rows : List CurveRow) (v o : ℤ) → HasFactors rows → IsFactor v → IsFactor (last_factor rows v o)
last_is_factor [] v o h k = k
last_is_factor (row ∷ rest) v o h k =
    either_factor (int_lt o (pos row.offset)) v (last_factor rest row.factor o) k (last_is_factor rest row.factor o h.1 h.0)

pub answers_factor : CurvesAnswerFactors
answers_factor [] w o h k = absurd h
answers_factor (row ∷ rest) w o h k =
    either_factor (int_lt o (pos 0)) w (last_factor (row ∷ rest) w o) k (last_is_factor (row ∷ rest) w o h.2 k)
