-- What one record of a table of discount factors says: a row of a curve, which is an offset in days and a factor. Its two
-- fields are judged in their order, and the first rule that one of them breaks counts.
use Rattle.std.specs.Prelude.{ℕ, ℤ, pos, ◌^◌, ◌&&◌, nat_le, int_le, List, [], ◌∷◌, Option, Some, None, Result, Ok, Err, if◌then◌else◌, codes}
use Rattle.term_model.specs.Limits.{last_curve_offset}
use Rattle.decimal.specs.Mantissas.{decimal_of}
use Rattle.term_model.specs.Factors.{CurveRow}
use Rattle.fixing_files.specs.Days.{count_of}
use Rattle.fixing_files.specs.Records.{Fields, mantissa_at}
use Rattle.fixing_files.specs.declared.faults.RowKind.{RowKind}
use Rattle.fixing_files.specs.declared.faults.RowKind.TheVariants as kind

abbrev pub within_offsets : Option ℕ → Option ℕ
within_offsets None = None
within_offsets (Some o) = if nat_le o last_curve_offset then Some o else None

-- the offset of a field: one to nine digits, of a number within the limit
abbrev pub offset_said : List ℕ → Option ℕ
offset_said text = within_offsets (count_of text)

abbrev pub within_factors : Option ℤ → Option ℤ
within_factors None = None
within_factors (Some v) = if int_le (pos 0) v && int_le v (pos (10 ^ 10)) then Some v else None

-- the factor of a field, in units of 10^-9: a decimal from 0 to 10 with at most 9 decimals
abbrev pub factor_said : List ℕ → Option ℤ
factor_said text = within_factors (mantissa_at 9 (decimal_of text))

abbrev pub row_with : Option ℕ → Option ℤ → Result CurveRow RowKind
row_with None factor = Err kind.Day
row_with (Some o) None = Err kind.Factor
row_with (Some o) (Some v) = Ok (record { offset = o; factor = v })

-- the row that a record says, or the first rule that it breaks by itself
unfoldable pub row_said : Fields → Result CurveRow RowKind
row_said (offset ∷ factor ∷ []) = row_with (offset_said offset) (factor_said factor)
row_said _ = Err kind.Shape

-- the fields of the first record
abbrev pub curve_header : Fields
curve_header = codes "offset" ∷ codes "factor" ∷ []
