-- The rows of labels while a table is read: which record fixes which value on which day. These are for the private steps of
-- reading; `Tables` says what a whole table means.
use Rattle.std.specs.Prelude.{◌≡◌, ◌↔◌, ◌⊎◌, ◌<◌, ℕ, ℤ, zero, suc, Bool, true, false, List, [], ◌∷◌, length, Option, Some, None, slice_get, slice_index, slice_index_or, Contains, int_lt}
use Rattle.std.specs.Ordering.{int_eq}
use Rattle.term_model.specs.declared.values.Value.{Value}
use Rattle.term_model.specs.declared.values.Value.TheVariants.{Num as Amount, Truth}
use Rattle.fixing_files.specs.Runs.{IsRising, day_at, no_day}
use Rattle.fixing_files.specs.declared.runs.FixedDay.{FixedDay}
use Rattle.fixing_files.specs.declared.rows.Row.{Row}
use Rattle.fixing_files.specs.declared.rows.Run.{Run}

-- the row that stands at k of the days that rose
abbrev pub row_at : List FixedDay → List ℕ → ℕ → Row
row_at days numbers k = record { day = day_at days k; number = slice_index numbers k; value = (slice_index_or days k no_day).value }

-- a row is one of those that rose
pub record HasRisen (days : List FixedDay) (numbers : List ℕ) (x : Row) : Type 0 where
  pub at : ℕ
  pub within : at < length days
  pub is : row_at days numbers at ≡ x

abbrev pub row_from : FixedDay → ℕ → Row
row_from z n = record { day = z.day; number = n; value = z.value }

abbrev pub day_of_row : Row → FixedDay
day_of_row x = record { day = x.day; value = x.value }

-- a label has a row
abbrev pub HasRow : Run → Row → Type 0
HasRow run x = HasRisen run.days.items run.numbers.items x ⊎ Contains run.late.items x

-- the days rise, and each has the number of its record
pub record IsRun (run : Run) : Type 0 where
  pub rising : IsRising run.days.items
  pub numbered : length run.numbers.items ≡ length run.days.items

abbrev pub HasNoRow : Run → Type 0
HasNoRow run = (x : Row) → ¬ (HasRow run x)

-- a day is above the last
abbrev pub rises_above : Option FixedDay → ℤ → Bool
rises_above None t = true
rises_above (Some last) t = int_lt last.day t

-- the same value
abbrev pub same_truth : Bool → Bool → Bool
same_truth true b = b
same_truth false true = false
same_truth false false = true

abbrev pub same_value : Value → Value → Bool
same_value (Amount m) (Amount n) = int_eq m n
same_value (Truth a) (Truth b) = same_truth a b
same_value _ _ = false

-- a row is added to those of a label
abbrev pub AddsRow : Run → Run → Row → Type 0
AddsRow before after row = (x : Row) → HasRow after x ↔ (HasRow before x ⊎ (row ≡ x))

-- the label of this number has a row
abbrev pub RowAt : List Run → ℕ → Row → Type 0
RowAt [] l x = ⊥
RowAt (run ∷ runs) zero x = HasRow run x
RowAt (run ∷ runs) (suc l) x = RowAt runs l x

abbrev pub AreRuns : List Run → Type 0
AreRuns runs = (l : ℕ) (run : Run) → slice_get runs l ≡ Some run → IsRun run

abbrev pub SameRows : List Run → List Run → Type 0
SameRows before after = (l : ℕ) (x : Row) → RowAt after l x ↔ RowAt before l x

-- a row is added to those of a label, and nothing else changes
abbrev pub AddsRowAt : List Run → List Run → ℕ → Row → Type 0
AddsRowAt before after label row = (l : ℕ) (x : Row) → RowAt after l x ↔ (RowAt before l x ⊎ ((label ≡ l) × (row ≡ x)))

-- each number is that of one row
abbrev pub HasOwnNumbers : (Row → Type 0) → Type 0
HasOwnNumbers In = (x y : Row) → In x → In y → x.number ≡ y.number → x ≡ y

-- the rows of a label, in a list
abbrev pub HasRows : Run → List Row → Type 0
HasRows run rows = (x : Row) → Contains rows x ↔ HasRow run x

abbrev pub HaveOwnNumbers : List Run → Type 0
HaveOwnNumbers runs = (l : ℕ) → HasOwnNumbers (RowAt runs l)
