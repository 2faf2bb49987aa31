-- What is known of a table after some of its records: none broke a rule by itself, and the rows of each label are what
-- they say. These are for the private steps of reading.
use Rattle.std.specs.Prelude.{◌≡◌, ◌↔◌, ◌⊎◌, ◌+◌, ◌≤◌, ◌==◌, ℕ, true, false, List, length, Option, Some, None, Result, Ok, Err, if◌then◌else◌}
use Rattle.term_model.specs.Declarations.{Declarations}
use Rattle.term_model.specs.Environments.{Place}
use Rattle.term_model.specs.declared.values.Value.{Value}
use Rattle.fixing_files.specs.Records.{Fields, said}
use Rattle.fixing_files.specs.Rows.{AddsRowAt, AreRuns, RowAt, SameRows}
use Rattle.fixing_files.specs.Steps.{is_header}
use Rattle.fixing_files.specs.Tables.{BreaksAlone, LacksHeader, Says, Table}
use Rattle.fixing_files.specs.declared.faults.RowFault.{RowFault}
use Rattle.fixing_files.specs.declared.faults.RowKind.{RowKind}
use Rattle.fixing_files.specs.declared.faults.RowKind.TheVariants.{Shape}
use Rattle.fixing_files.specs.declared.rows.Row.{Row}
use Rattle.fixing_files.specs.declared.rows.Run.{Run}

-- the row of record n, that v is fixed on a day
abbrev pub row_of : ℕ → Place → Value → Row
row_of n q v = record { day = q.day; number = n; value = v }

-- what record n says is added to the rows
abbrev pub AddsSaid : Result (Place × Value) RowKind → ℕ → List Run → List Run → Type 0
AddsSaid (Ok p) n before after = AddsRowAt before after p.0.label (row_of n p.0 p.1)
AddsSaid (Err kind) n before after = ⊥

-- record n is the header, or what it says is added
abbrev pub TakesOn : Declarations → ℕ → Fields → List Run → List Run → Type 0
TakesOn d n fields before after =
    ((n ≡ 1) × (is_header fields ≡ true) × SameRows before after)
    ⊎ ((2 ≤ n) × AddsSaid (said d fields) n before after)

-- record n breaks a rule by itself
abbrev pub StopsAt : Declarations → ℕ → Fields → RowKind → Type 0
StopsAt d n fields kind = ((n ≡ 1) × (is_header fields ≡ false) × (kind ≡ Shape)) ⊎ ((2 ≤ n) × (said d fields ≡ Err kind))

-- the answer to record n
abbrev pub Takes : Declarations → ℕ → Fields → List Run → List Run → Option RowKind → Type 0
Takes d n fields before after None = AreRuns after × TakesOn d n fields before after
Takes d n fields before after (Some kind) = (after ≡ before) × StopsAt d n fields kind

-- of the first m records none breaks a rule by itself, and the rows are what they say
pub record Collects (d : Declarations) (table : Table) (m : ℕ) (runs : List Run) : Type 0 where
  pub alone : (n : ℕ) (k : RowKind) → n ≤ m → ¬ (LacksHeader table n k ⊎ BreaksAlone d table n k)
  pub says : (n : ℕ) (q : Place) (v : Value) → ((n ≤ m) × Says d table n q v) ↔ RowAt runs q.label (row_of n q v)

-- the next record breaks a rule by itself
pub record Stops (d : Declarations) (table : Table) (runs : List Run) (fault : RowFault) : Type 0 where
  pub read : ℕ
  pub next : fault.row ≡ read + 1
  pub collects : Collects d table read runs
  pub breaks : LacksHeader table fault.row fault.kind ⊎ BreaksAlone d table fault.row fault.kind

abbrev pub Ends : Declarations → Table → List Run → Option RowFault → Type 0
Ends d table runs None = (1 ≤ length table) × Collects d table (length table) runs
Ends d table runs (Some fault) = Stops d table runs fault

-- the rows of all records, or of those before the first that breaks a rule by itself
pub record Gathers (d : Declarations) (table : Table) (runs : List Run) (fault : Option RowFault) : Type 0 where
  pub are_runs : AreRuns runs
  pub ends : Ends d table runs fault

-- the fault of a table without records
abbrev pub missing : ℕ → Option RowFault
missing n = if n == 0 then Some (record { row = 1; kind = Shape }) else None
