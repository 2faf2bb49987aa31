-- What a table of discount factors says, over the records that csv reads of the bytes, numbered from 1: the first is the
-- header, and each further one says a row of the curve or breaks a rule by itself. The first row stands at offset 0, and
-- each further one above the row before. A table is refused at the first record that breaks a rule, and else it holds the
-- curve of its rows.
use Rattle.std.specs.Prelude.{◌≡◌, ◌≢◌, ◌⊎◌, ◌≤◌, ◌+◌, ℕ, List, [], ◌∷◌, Some, None, Result, Ok, Err}
use Rattle.term_model.specs.Factors.{CurveRow, IsCurve}
use Rattle.fixing_files.specs.CurveRecords.{curve_header, row_said}
use Rattle.fixing_files.specs.Records.{Fields}
use Rattle.fixing_files.specs.Tables.{StandsAt, Table, record_at}
use Rattle.fixing_files.specs.declared.faults.RowKind.{RowKind}
use Rattle.fixing_files.specs.declared.faults.RowKind.TheVariants as kind
use Rattle.fixing_files.specs.declared.faults.RowFault.{RowFault}
use Rattle.fixing_files.specs.declared.faults.RowErr.{RowErr}
use Rattle.fixing_files.specs.declared.faults.RowErr.TheVariants.{Row, NoMemory}

-- record n says this row
pub record SaysRow (table : Table) (n : ℕ) (row : CurveRow) : Type 0 where
  pub fields : Fields
  pub at : StandsAt table n fields
  pub meaning : row_said fields ≡ Ok row

-- the header is missing, or has other fields
pub record LacksCurveHeader (table : Table) (n : ℕ) (k : RowKind) : Type 0 where
  pub number : n ≡ 1
  pub kind : k ≡ kind.Shape
  pub other : record_at table 1 ≢ Some curve_header

-- record n breaks a rule by itself
pub record IsBrokenRow (table : Table) (n : ℕ) (k : RowKind) : Type 0 where
  pub fields : Fields
  pub at : StandsAt table n fields
  pub meaning : row_said fields ≡ Err k

-- there is no row
pub record LacksRows (table : Table) (n : ℕ) (k : RowKind) : Type 0 where
  pub number : n ≡ 2
  pub kind : k ≡ kind.Zero
  pub none : record_at table 2 ≡ None

-- the first row is not at offset 0
pub record StartsLate (table : Table) (n : ℕ) (k : RowKind) : Type 0 where
  pub number : n ≡ 2
  pub kind : k ≡ kind.Zero
  pub row : CurveRow
  pub says : SaysRow table 2 row
  pub late : row.offset ≢ 0

-- the row of record n is not above the one before
pub record FallsBack (table : Table) (n : ℕ) (k : RowKind) : Type 0 where
  pub kind : k ≡ kind.Rising
  pub earlier : ℕ
  pub before : CurveRow
  pub row : CurveRow
  pub next : n ≡ earlier + 1
  pub says_before : SaysRow table earlier before
  pub says : SaysRow table n row
  pub not_above : row.offset ≤ before.offset

-- record n breaks the rule k
abbrev pub BreaksCurve : Table → ℕ → RowKind → Type 0
BreaksCurve table n k =
    LacksCurveHeader table n k ⊎ IsBrokenRow table n k ⊎ LacksRows table n k ⊎ StartsLate table n k ⊎ FallsBack table n k

-- the first record that breaks a rule, and the rule
pub record IsFirstCurveFault (table : Table) (fault : RowFault) : Type 0 where
  pub breaks : BreaksCurve table fault.row fault.kind
  pub first : (n : ℕ) (k : RowKind) → BreaksCurve table n k → fault.row ≤ n

-- the records say these rows, one each, in their order
abbrev pub SayRows : List Fields → List CurveRow → Type 0
SayRows [] [] = Unit {0}
SayRows (fields ∷ records) (row ∷ rows) = (row_said fields ≡ Ok row) × SayRows records rows
SayRows _ _ = ⊥

-- the table is the header and a record for each row of a curve
pub record HoldsCurve (table : Table) (rows : List CurveRow) : Type 0 where
  pub records : List Fields
  pub headed : table ≡ curve_header ∷ records
  pub said : SayRows records rows
  pub curve : IsCurve rows

-- the answer to a table
abbrev pub AnswersCurve : Table → Result (List CurveRow) RowErr → Type 0
AnswersCurve table (Ok rows) = HoldsCurve table rows
AnswersCurve table (Err (Row fault)) = IsFirstCurveFault table fault
AnswersCurve table (Err NoMemory) = Unit {0}
