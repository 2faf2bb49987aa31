-- Discount factors, in units of 10^-9 and from 0 to 10: a curve is a step function, given by rows of an offset in days and
-- a factor, whose offsets rise from 0. The factor at an offset is that of the greatest offset of a row at or below it, and
-- a stated one in the past.
use Rattle.std.specs.Prelude.{ℕ, ℤ, pos, int_lt, ◌≡◌, ◌<◌, ◌≤ℤ◌, ◌^◌, List, [], ◌∷◌, if◌then◌else◌}

pub record CurveRow : Type 0 where
  pub offset : ℕ
  pub factor : ℤ

-- a factor is at most 10, in units of 10^-9
abbrev pub IsFactor : ℤ → Type 0
IsFactor v = (pos 0 ≤ℤ v) × (v ≤ℤ pos (10 ^ 10))

-- the offsets rise, above a first one
abbrev pub Rises : ℕ → List CurveRow → Type 0
Rises o [] = Unit {0}
Rises o (row ∷ rest) = (o < row.offset) × Rises row.offset rest

abbrev pub HasFactors : List CurveRow → Type 0
HasFactors [] = Unit {0}
HasFactors (row ∷ rest) = IsFactor row.factor × HasFactors rest

abbrev pub IsCurve : List CurveRow → Type 0
IsCurve [] = ⊥
IsCurve (row ∷ rest) = (row.offset ≡ 0) × Rises 0 rest × HasFactors (row ∷ rest)

-- the factor of the last row at or below o, or v where there is none
abbrev pub last_factor : List CurveRow → ℤ → ℤ → ℤ
last_factor [] v o = v
last_factor (row ∷ rest) v o = if int_lt o (pos row.offset) then v else last_factor rest row.factor o

-- the factor at offset o, which is w for a day gone by
abbrev pub discount_factor : List CurveRow → ℤ → ℤ → ℤ
discount_factor rows w o = if int_lt o (pos 0) then w else last_factor rows w o
