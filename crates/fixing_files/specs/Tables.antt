-- What a table of fixings says, over the records that csv reads of the bytes, numbered from 1: the first is the header,
-- and each further one says that a value is fixed at a place or breaks a rule by itself, or conflicts with an earlier
-- record of the same place. A table is refused at the first record that breaks a rule, and else it holds what its
-- records say.
use Rattle.std.specs.Prelude.{◌≡◌, ◌≢◌, ◌↔◌, ◌⊎◌, ◌≤◌, ◌<◌, ℕ, zero, suc, List, length, Option, Some, None, Result, Ok, Err, slice_get}
use Rattle.csv.specs.Reading.{default_config, records, strip_bom}
use Rattle.term_model.specs.Declarations.{Declarations}
use Rattle.term_model.specs.Environments.{Environment, Place, held}
use Rattle.term_model.specs.declared.values.Value.{Value}
use Rattle.fixing_files.specs.Records.{Fields, IsFixingDay, header, said}
use Rattle.fixing_files.specs.declared.faults.RowKind.{RowKind}
use Rattle.fixing_files.specs.declared.faults.RowKind.TheVariants as kind
use Rattle.fixing_files.specs.declared.faults.RowFault.{RowFault}
use Rattle.fixing_files.specs.declared.faults.RowErr.{RowErr}
use Rattle.fixing_files.specs.declared.faults.RowErr.TheVariants.{Row, NoMemory}

abbrev pub Table : Type 0
Table = List Fields

-- the records of a text, of any length: fields between commas, in double quotes where they begin with one, and nothing
-- trimmed but a byte order mark before the first
abbrev pub table_of : List ℕ → Table
table_of bytes = records default_config (strip_bom bytes)

-- record n
abbrev pub record_at : Table → ℕ → Option Fields
record_at table zero = None
record_at table (suc i) = slice_get table i

-- record n, below the header, stands in the table with these fields
pub record StandsAt (table : Table) (n : ℕ) (fields : Fields) : Type 0 where
  pub below_header : 2 ≤ n
  pub stands : record_at table n ≡ Some fields

-- record n says that v is fixed at q
pub record Says (d : Declarations) (table : Table) (n : ℕ) (q : Place) (v : Value) : Type 0 where
  pub fields : Fields
  pub at : StandsAt table n fields
  pub meaning : said d fields ≡ Ok (q, v)

-- record e is the first that fixes a value at q
pub record IsFirstAt (d : Declarations) (table : Table) (q : Place) (e : ℕ) : Type 0 where
  pub value : Value
  pub says : Says d table e q value
  pub first : (n : ℕ) (w : Value) → Says d table n q w → e ≤ n

-- an earlier record has the place of record n and another value, and record e is the first of that place
pub record Conflicts (d : Declarations) (table : Table) (n e : ℕ) : Type 0 where
  pub place : Place
  pub value : Value
  pub other : Value
  pub earlier : ℕ
  pub says : Says d table n place value
  pub says_other : Says d table earlier place other
  pub before : earlier < n
  pub another : other ≢ value
  pub first : IsFirstAt d table place e

-- the header is missing, or has other fields
pub record LacksHeader (table : Table) (n : ℕ) (k : RowKind) : Type 0 where
  pub number : n ≡ 1
  pub kind : k ≡ kind.Shape
  pub other : record_at table 1 ≢ Some header

-- record n breaks a rule by itself
pub record BreaksAlone (d : Declarations) (table : Table) (n : ℕ) (k : RowKind) : Type 0 where
  pub fields : Fields
  pub at : StandsAt table n fields
  pub meaning : said d fields ≡ Err k

-- record n breaks the rule k
abbrev pub Breaks : Declarations → Table → ℕ → RowKind → Type 0
Breaks d table n k = LacksHeader table n k ⊎ BreaksAlone d table n k ⊎ ((e : ℕ) × (k ≡ kind.Conflict e) × Conflicts d table n e)

-- the first record that breaks a rule, and the rule
pub record IsFirstFault (d : Declarations) (table : Table) (fault : RowFault) : Type 0 where
  pub breaks : Breaks d table fault.row fault.kind
  pub first : (n : ℕ) (k : RowKind) → Breaks d table n k → fault.row ≤ n

-- no record breaks a rule, and the environment holds v at q exactly where some record says so
pub record Holds (d : Declarations) (table : Table) (env : Environment) : Type 0 where
  pub sound : (n : ℕ) (k : RowKind) → ¬ (Breaks d table n k)
  pub holds : (q : Place) (v : Value) → (held env q ≡ Some v) ↔ ((n : ℕ) × Says d table n q v)

-- the answer to a table
abbrev pub Answers : Declarations → Table → Result Environment RowErr → Type 0
Answers d table (Ok env) = Holds d table env
Answers d table (Err (Row fault)) = IsFirstFault d table fault
Answers d table (Err NoMemory) = Unit {0}

-- each place that it holds is a declared label on a day within the limits
abbrev pub IsPlaced : Declarations → Environment → Type 0
IsPlaced d env = (q : Place) (v : Value) → held env q ≡ Some v → (q.label < length d.labels) × IsFixingDay q.day
