-- The text of a piece of a line, and what can be written: a number within the limits of a decimal.
use Rattle.std.specs.Prelude.{ℕ, pos, ◌≤◌, List, [], ◌∷◌}
use Rattle.decimal.specs.Text.{text_of}
use Rattle.interval_check.specs.Safety.{IsSmall}
use Rattle.report.specs.declared.pieces.Piece.{Piece}
use Rattle.report.specs.declared.pieces.Piece.TheVariants.{Words, Number}

-- a whole number in digits
abbrev pub number_text : ℕ → List ℕ
number_text n = text_of (pos n) 0

abbrev pub piece_text : Piece → List ℕ
piece_text (Words text) = text.now
piece_text (Number mantissa scale) = text_of mantissa scale

abbrev pub IsWritable : Piece → Type 0
IsWritable (Words text) = Unit {0}
IsWritable (Number mantissa scale) = IsSmall mantissa × (scale ≤ 27)

abbrev pub AreWritable : List Piece → Type 0
AreWritable [] = Unit {0}
AreWritable (piece ∷ pieces) = IsWritable piece × AreWritable pieces
