-- What one record of a table of fixings says: that a value is fixed at a place, a label on a day. Its three fields are
-- judged in their order, and the first rule that one of them breaks counts.
use Rattle.std.specs.Prelude.{ℕ, ◌-◌, ℤ, pos, neg_ℤ, ◌&&◌, ◌≤ℤ◌, nat_le, int_le, true, false, List, [], ◌∷◌, Option, Some, None, Result, Ok, Err, if◌then◌else◌, position, codes}
use Rattle.std.specs.Map.{keys_of}
use Rattle.std.specs.Str.{bytes_eq}
use Rattle.term_model.specs.Limits.{last_fixed_day}
use Rattle.decimal.specs.declared.reading.Decimal.{Decimal}
use Rattle.decimal.specs.Mantissas.{mantissa, decimal_of}
use Rattle.decimal.specs.Rounding.{raised}
use Rattle.term_model.specs.Declarations.{Declarations}
use Rattle.term_model.specs.Environments.{Place, label_of}
use Rattle.term_model.specs.declared.label.Label.{Label}
use Rattle.term_model.specs.declared.label.Label.TheVariants.{Number, Flag}
use Rattle.term_model.specs.declared.values.Value.{Value as Reading}
use Rattle.term_model.specs.declared.values.Value.TheVariants.{Num as Amount, Truth}
use Rattle.fixing_files.specs.Days.{day_of}
use Rattle.fixing_files.specs.declared.days.DayFault.{DayFault}
use Rattle.fixing_files.specs.declared.faults.RowKind.{RowKind}
use Rattle.fixing_files.specs.declared.faults.RowKind.TheVariants.{Shape, Label as UnknownLabel, Day, Value, Bounds}

-- the fields of a record
abbrev pub Fields : Type 0
Fields = List (List ℕ)

-- the place of a label's name among the declared ones
abbrev pub label_named : Declarations → List ℕ → Option ℕ
label_named d name = position (λ declared. bytes_eq name declared) (keys_of d.labels)

-- a day on which a value may be fixed
abbrev pub IsFixingDay : ℤ → Type 0
IsFixingDay t = (neg_ℤ (pos last_fixed_day) ≤ℤ t) × (t ≤ℤ pos last_fixed_day)

abbrev pub within_days : ℤ → Option ℤ
within_days t = if int_le (neg_ℤ (pos last_fixed_day)) t && int_le t (pos last_fixed_day) then Some t else None

abbrev pub day_or_none : Result ℤ DayFault → Option ℤ
day_or_none (Ok t) = within_days t
day_or_none (Err fault) = None

-- the day of a field, counted from the origin
abbrev pub day_said : Option ℤ → List ℕ → Option ℤ
day_said origin text = day_or_none (day_of origin text)

-- a decimal as a mantissa at a scale: it has no more decimals, and its mantissa stays within the limit
abbrev pub mantissa_at : ℕ → Option Decimal → Option ℤ
mantissa_at scale None = None
mantissa_at scale (Some d) = if nat_le d.scale scale then mantissa (raised d.mant (scale - d.scale)) else None

-- a mantissa within the bounds of its label
abbrev pub within_bounds : ℤ → ℤ → Option ℤ → Result Reading RowKind
within_bounds low high None = Err Value
within_bounds low high (Some m) = if int_le low m && int_le m high then Ok (Amount m) else Err Bounds

abbrev pub truth_said : List ℕ → Result Reading RowKind
truth_said text =
    if bytes_eq text (codes "true") then Ok (Truth true) else if bytes_eq text (codes "false") then Ok (Truth false) else Err Value

-- the value of a field, for an observable
abbrev pub value_said : Option Label → List ℕ → Result Reading RowKind
value_said None text = Err UnknownLabel
value_said (Some Flag) text = truth_said text
value_said (Some (Number scale low high)) text = within_bounds low high (mantissa_at scale (decimal_of text))

abbrev pub placed : Place → Result Reading RowKind → Result (Place × Reading) RowKind
placed q (Ok v) = Ok (q, v)
placed q (Err kind) = Err kind

abbrev pub said_at : Declarations → Option ℕ → Option ℤ → List ℕ → Result (Place × Reading) RowKind
said_at d None day value = Err UnknownLabel
said_at d (Some l) None value = Err Day
said_at d (Some l) (Some t) value = placed (record { label = l; day = t }) (value_said (label_of d l) value)

-- the value that a record says is fixed, and the place, or the first rule that the record breaks
unfoldable pub said : Declarations → Fields → Result (Place × Reading) RowKind
said d (name ∷ day ∷ value ∷ []) = said_at d (label_named d name) (day_said d.origin day) value
said d _ = Err Shape

-- the fields of the first record
abbrev pub header : Fields
header = codes "label" ∷ codes "day" ∷ codes "value" ∷ []
