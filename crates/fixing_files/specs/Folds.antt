-- What the rows of a label come to: each day with its value, or the least record that says another value than the first
-- record of its day. These are for the private steps of reading.
use Rattle.std.specs.Prelude.{◌≡◌, ◌≢◌, ◌↔◌, ◌≤◌, ◌<◌, ◌≤ℤ◌, nat_le, ℕ, ℤ, List, [], ◌∷◌, ◌++◌, length, Option, Some, None, if◌then◌else◌, slice_index_or, Contains}
use Rattle.std.specs.Ordering.{int_eq}
use Rattle.term_model.specs.declared.values.Value.{Value}
use Rattle.fixing_files.specs.Runs.{IsRising, run_at}
use Rattle.fixing_files.specs.Rows.{HasOwnNumbers, RowAt, day_of_row}
use Rattle.fixing_files.specs.declared.runs.FixedDay.{FixedDay}
use Rattle.fixing_files.specs.declared.rows.Row.{Row}
use Rattle.fixing_files.specs.declared.rows.Run.{Run}
use Rattle.fixing_files.specs.declared.folds.Clash.{Clash}
use Rattle.fixing_files.specs.declared.folds.Folding.{Folding}
use Rattle.fixing_files.specs.declared.folds.Settled.{Settled}
use Rattle.fixing_files.specs.declared.folds.Settled.TheVariants.{Days, Clashes as Clashing}
use Rattle.fixing_files.specs.declared.folds.AllSettled.{AllSettled}
use Rattle.fixing_files.specs.declared.folds.AllSettled.TheVariants.{Runs, Clashes as AllClashing}

-- the first row of the last day, if a row is of that day
abbrev pub first_of_day : Option Row → Row → Option Row
first_of_day None row = None
first_of_day (Some h) row = if int_eq h.day row.day then Some h else None

-- the first row of its day
pub record IsFirstRow (In : Row → Type 0) (x : Row) : Type 0 where
  pub has : In x
  pub first : (y : Row) → In y → y.day ≡ x.day → x.number ≤ y.number

-- record n says another value than the first row of its day, that of record e
pub record Clashes (In : Row → Type 0) (n e : ℕ) : Type 0 where
  pub row : Row
  pub first : Row
  pub has : In row
  pub is_first : IsFirstRow In first
  pub same_day : first.day ≡ row.day
  pub another : first.value ≢ row.value
  pub number : row.number ≡ n
  pub earlier : first.number ≡ e

-- the clash of the least record, or none
abbrev pub IsLeast : (Row → Type 0) → Option Clash → Type 0
IsLeast In None = (n e : ℕ) → ¬ (Clashes In n e)
IsLeast In (Some c) = Clashes In c.number c.earlier × ((n e : ℕ) → Clashes In n e → c.number ≤ n)

abbrev pub lesser : Option Clash → Clash → Clash
lesser None c = c
lesser (Some b) c = if nat_le b.number c.number then b else c

-- a row is of this day and says this value
abbrev pub IsSaid : (Row → Type 0) → ℤ → Value → Type 0
IsSaid In t v = (n : ℕ) × In (record { day = t; number = n; value = v })

-- the days are those of the rows, each with its value
pub record HoldsDays (In : Row → Type 0) (days : List FixedDay) : Type 0 where
  pub rising : IsRising days
  pub holds : (t : ℤ) (v : Value) → Contains days (record { day = t; value = v }) ↔ IsSaid In t v

abbrev pub Settles : (Row → Type 0) → Settled → Type 0
Settles In (Days days) = HoldsDays In days.items × IsLeast In None
Settles In (Clashing c) = IsLeast In (Some c)

-- one row may come before another
abbrev pub IsBefore : Row → Row → Type 0
IsBefore x y = (x.day ≤ℤ y.day) × (x.day ≡ y.day → x.number ≤ y.number)

-- in the order of days, and of records for one day
abbrev pub IsInOrder : List Row → Type 0
IsInOrder rows = (i j : ℕ) (d : Row) → i ≤ j → j < length rows → IsBefore (slice_index_or rows i d) (slice_index_or rows j d)

-- a row comes behind those in order, and each number is that of one row
pub record Comes (rows : List Row) (row : Row) : Type 0 where
  pub behind : (x : Row) → Contains rows x → IsBefore x row
  pub numbers : HasOwnNumbers (Contains (rows ++ row ∷ []))

-- the first row of the last day
pub record IsHead (In : Row → Type 0) (h : Row) : Type 0 where
  pub first : IsFirstRow In h
  pub last : (x : Row) → In x → x.day ≤ℤ h.day

abbrev pub HeadIs : (Row → Type 0) → Option Row → Type 0
HeadIs In None = (x : Row) → ¬ (In x)
HeadIs In (Some h) = IsHead In h

-- the first row of a day that stands in the days
pub record IsKept (In : Row → Type 0) (days : List FixedDay) (t : ℤ) : Type 0 where
  pub row : Row
  pub first : IsFirstRow In row
  pub day : row.day ≡ t
  pub kept : Contains days (day_of_row row)

pub record IsFirstDay (In : Row → Type 0) (z : FixedDay) : Type 0 where
  pub row : Row
  pub first : IsFirstRow In row
  pub is : day_of_row row ≡ z

-- the days have the first row of each day, the first row of the last day is known, and the least clash
pub record Folds (rows : List Row) (days : List FixedDay) (head : Option Row) (least : Option Clash) : Type 0 where
  pub rising : IsRising days
  pub kept : (x : Row) → Contains rows x → IsKept (Contains rows) days x.day
  pub sound : (z : FixedDay) → Contains days z → IsFirstDay (Contains rows) z
  pub head_is : HeadIs (Contains rows) head
  pub least_is : IsLeast (Contains rows) least

-- the next row is taken
abbrev pub Advances : Folding → Folding → Row → Type 0
Advances before after row =
    (rows : List Row) → Comes rows row
    → Folds rows before.days.items before.first before.least
    → Folds (rows ++ row ∷ []) after.days.items after.first after.least

-- the label of this number clashes
pub record ClashesAt (runs : List Run) (n e : ℕ) : Type 0 where
  pub label : ℕ
  pub clash : Clashes (RowAt runs label) n e

-- the days of each label, or the clash of the least record
abbrev pub SettlesAll : List Run → AllSettled → Type 0
SettlesAll runs (Runs days) = ((l : ℕ) → HoldsDays (RowAt runs l) (run_at days.items l)) × ((n e : ℕ) → ¬ (ClashesAt runs n e))
SettlesAll runs (AllClashing c) = ClashesAt runs c.number c.earlier × ((n e : ℕ) → ClashesAt runs n e → c.number ≤ n)
