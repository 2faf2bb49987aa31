-- The line of a position: `DAY,PARTY,ASSET,AMOUNT`, with the day as a number, or as a date where the portfolio has an
-- origin, and the amount at the asset's decimals, with a minus before it where it is below 0.
use Rattle.std.specs.Prelude.{◌≡◌, ℕ, ℤ, List, ◌++◌}
use Rattle.decimal.specs.Appending.{AppendsPart}
use Rattle.term_model.specs.Declarations.{Declarations, declarations}
use Rattle.term_model.specs.declared.decls.Decls.{Decls}
use Rattle.report.specs.FlowLines.{IsAmountInAsset, IsDayText, amount_text, field, name_at}
use Rattle.report.specs.Pieces.{piece_text}
use Rattle.report.specs.declared.pieces.Piece.{Piece}
use Rattle.exposure.specs.declared.accounts.PositionRow.{PositionRow}

-- behind the day: whose position, in what, and how much
abbrev pub terms_text : Declarations → PositionRow → ℤ → List ℕ
terms_text d row amount = field (name_at d.parties row.party) ++ amount_text d row.asset amount

-- the line with a text for the day
abbrev pub line_with : Declarations → List ℕ → PositionRow → ℤ → List ℕ
line_with d day row amount = day ++ terms_text d row amount

-- the same by the program's values
abbrev pub line_on : Decls → Piece → PositionRow → ℤ → List ℕ
line_on decls day row amount = line_with (declarations decls) (piece_text day) row amount

pub record IsPositionLine (d : Declarations) (row : PositionRow) (line : List ℕ) : Type 0 where
  pub day : List ℕ
  pub is_day : IsDayText d.origin row.day day
  pub amount : ℤ
  pub is_amount : IsAmountInAsset d row.asset row.amount amount
  pub is_line : line ≡ line_with d day row amount

-- the text after is the text before and the line of the row
pub record AppendsPositionLine (d : Declarations) (row : PositionRow) (before after : List ℕ) : Type 0 where
  pub line : List ℕ
  pub is_line : IsPositionLine d row line
  pub appended : after ≡ before ++ line

-- the text after is the text before and a front part of the line of the row
pub record AppendsPartOfPositionLine (d : Declarations) (row : PositionRow) (before after : List ℕ) : Type 0 where
  pub line : List ℕ
  pub is_line : IsPositionLine d row line
  pub appended : AppendsPart before line after
