-- The line of a flow: `NAME,DAY,FROM,TO,ASSET,AMOUNT`, with the day as a number, or as a date where the portfolio has
-- an origin, and the amount at the asset's decimals.
use Rattle.std.specs.Prelude.{◌≡◌, ℕ, ℤ, pos, neg_ℤ, ◌+ℤ◌, ◌-◌, ◌≤ℤ◌, List, [], ◌∷◌, ◌++◌, Option, Some, None, slice_get}
use Rattle.std.specs.List.{All}
use Rattle.std.specs.Map.{keys_of}
use Rattle.decimal.specs.Appending.{AppendsPart}
use Rattle.decimal.specs.Rounding.{raised}
use Rattle.decimal.specs.Text.{text_of}
use Rattle.term_model.specs.Dates.{epoch_day_of}
use Rattle.term_model.specs.Declarations.{Declarations, declarations, decimals_of}
use Rattle.term_model.specs.Flows.{Flow}
use Rattle.term_model.specs.LawsScales.{IsMultiple}
use Rattle.term_model.specs.declared.decls.Decls.{Decls}
use Rattle.term_model.specs.declared.name.Name.{Name}
use Rattle.flow_eval.specs.declared.flow_table.FlowRow.{FlowRow}
use Rattle.report.specs.CheckLines.{line_feed}
use Rattle.report.specs.Pieces.{piece_text}
use Rattle.report.specs.declared.pieces.Piece.{Piece}

-- an origin is an epoch day of the years 1900 to 2999
abbrev pub IsOrigin : ℤ → Type 0
IsOrigin origin = (neg_ℤ (pos 25_567) ≤ℤ origin) × (origin ≤ℤ pos 376_199)

-- the text of a day: its number, or the text of the date that it is
abbrev pub IsDayText : Option ℤ → ℤ → List ℕ → Type 0
IsDayText None day text = text ≡ text_of day 0
IsDayText (Some origin) day text = epoch_day_of text ≡ Some (origin +ℤ day)

-- a declared name by its place
abbrev pub name_at : List Name → ℕ → List ℕ
name_at names place = elim (slice_get names place) [ Some name ↦ name | None ↦ [] ]

-- a comma, and a field behind it
abbrev pub field : List ℕ → List ℕ
field text = 44 ∷ text

-- the end of a line: an asset, and an amount at its decimals
abbrev pub amount_text : Declarations → ℕ → ℤ → List ℕ
amount_text d asset amount = field (name_at (keys_of d.assets) asset) ++ (field (text_of amount (decimals_of d asset)) ++ line_feed)

-- what stands behind the payer: whom it pays in what, and how much
abbrev pub behind_payer : Declarations → FlowRow → ℤ → List ℕ
behind_payer d row amount = field (name_at d.parties row.to) ++ amount_text d row.asset amount

-- and behind the day: who pays, and that
abbrev pub terms_text : Declarations → FlowRow → ℤ → List ℕ
terms_text d row amount = field (name_at d.parties row.from) ++ behind_payer d row amount

-- the line with a text for the day
abbrev pub line_with : Declarations → List ℕ → List ℕ → FlowRow → ℤ → List ℕ
line_with d name day row amount = name ++ (field day ++ terms_text d row amount)

-- the same by the program's values
abbrev pub line_on : Decls → List ℕ → Piece → FlowRow → ℤ → List ℕ
line_on decls name day row amount = line_with (declarations decls) name (piece_text day) row amount

-- the same amount of an asset, in units of the portfolio's least decimal and in units of the asset's
abbrev pub IsAmountInAsset : Declarations → ℕ → ℤ → ℤ → Type 0
IsAmountInAsset d asset amount in_asset = amount ≡ raised in_asset (d.amounts - decimals_of d asset)

-- an amount of an asset is a whole number at the asset's decimals
abbrev pub IsWholeInAsset : Declarations → ℕ → ℤ → Type 0
IsWholeInAsset d asset amount = IsMultiple amount (d.amounts - decimals_of d asset)

-- what is paid in each asset is such an amount
abbrev pub PaysInAssets : Declarations → (ℤ → Flow → ℤ) → Type 0
PaysInAssets d pays = (day : ℤ) (w : Flow) → IsWholeInAsset d w.asset (pays day w)

-- each row has an amount that a line can say
abbrev pub HaveLines : Declarations → List FlowRow → Type 0
HaveLines d rows = All (λ row. IsWholeInAsset d row.asset row.amount) rows

-- the line of a row of the named contract
pub record IsFlowLine (d : Declarations) (name : List ℕ) (row : FlowRow) (line : List ℕ) : Type 0 where
  pub day : List ℕ
  pub is_day : IsDayText d.origin row.day day
  pub amount : ℤ
  pub is_amount : IsAmountInAsset d row.asset row.amount amount
  pub is_line : line ≡ line_with d name day row amount

-- the text after is the text before and the line of the row
pub record AppendsFlowLine (d : Declarations) (name : List ℕ) (row : FlowRow) (before after : List ℕ) : Type 0 where
  pub line : List ℕ
  pub is_line : IsFlowLine d name row line
  pub appended : after ≡ before ++ line

-- the text after is the text before and a front part of the line of the row
pub record AppendsPartOfLine (d : Declarations) (name : List ℕ) (row : FlowRow) (before after : List ℕ) : Type 0 where
  pub line : List ℕ
  pub is_line : IsFlowLine d name row line
  pub appended : AppendsPart before line after
