-- Curves as they are kept: rows of an offset in days and a factor. What they stand for is the list of rows of the model.
use Rattle.std.specs.Prelude.{◌≤◌, List, [], ◌∷◌, map}
use Rattle.term_model.specs.Limits.{last_curve_offset}
use Rattle.term_model.specs.Factors.{CurveRow, IsCurve}
use Rattle.fixing_files.specs.declared.curves.CurveStep.{CurveStep}

abbrev pub row_of : CurveStep → CurveRow
row_of step = record { offset = step.offset; factor = step.factor }

abbrev pub rows_of : List CurveStep → List CurveRow
rows_of steps = map row_of steps

-- no offset is past the limit
abbrev pub AreNear : List CurveRow → Type 0
AreNear [] = Unit {0}
AreNear (row ∷ rest) = (row.offset ≤ last_curve_offset) × AreNear rest

-- what every curve is
pub record IsKept (rows : List CurveRow) : Type 0 where
  pub curve : IsCurve rows
  pub near : AreNear rows
