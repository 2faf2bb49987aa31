-- What is known of a table of discount factors after some of its records: the header, and a row for each further record,
-- which rise from 0. These are for the private steps of reading.
use Rattle.std.specs.Prelude.{◌≡◌, ◌⊎◌, ◌+◌, ◌-◌, ◌==◌, ◌&&◌, ℕ, Bool, false, nat_lt, List, [], ◌∷◌, ◌++◌, length, Option, Some, None, Result, Ok, Err, slice_get, if◌then◌else◌, codes}
use Rattle.std.specs.Str.{bytes_eq}
use Rattle.term_model.specs.Factors.{CurveRow, IsCurve}
use Rattle.fixing_files.specs.CurveRecords.{curve_header, row_said}
use Rattle.fixing_files.specs.CurveTables.{AnswersCurve, IsFirstCurveFault, SayRows}
use Rattle.fixing_files.specs.Curves.{AreNear, row_of}
use Rattle.fixing_files.specs.Records.{Fields}
use Rattle.fixing_files.specs.Tables.{Table}
use Rattle.fixing_files.specs.declared.curves.CurveStep.{CurveStep}
use Rattle.fixing_files.specs.declared.faults.RowKind.{RowKind}
use Rattle.fixing_files.specs.declared.faults.RowKind.TheVariants as kind
use Rattle.fixing_files.specs.declared.faults.RowErr.{RowErr}
use Rattle.fixing_files.specs.declared.faults.RowErr.TheVariants.{Row, NoMemory}

-- two fields
abbrev pub two_of : Fields → Option (List ℕ × List ℕ)
two_of (a ∷ b ∷ []) = Some (a, b)
two_of _ = None

abbrev pub are_curve_header : Option (List ℕ × List ℕ) → Bool
are_curve_header None = false
are_curve_header (Some r) = bytes_eq r.0 (codes "offset") && bytes_eq r.1 (codes "factor")

abbrev pub is_curve_header : Fields → Bool
is_curve_header fields = are_curve_header (two_of fields)

-- the answer to what a record says
abbrev pub TellsRow : Result CurveRow RowKind → Result CurveStep RowKind → Type 0
TellsRow meaning (Ok step) = meaning ≡ Ok (row_of step)
TellsRow meaning (Err kind) = meaning ≡ Err kind

-- the last row, if there is one
abbrev pub last_of : List CurveStep → Option CurveStep
last_of steps = slice_get steps (length steps - 1)

-- the rule that a row breaks behind the last one
abbrev pub broken_behind : Option CurveStep → CurveStep → Option RowKind
broken_behind None step = if step.offset == 0 then None else Some kind.Zero
broken_behind (Some last) step = if nat_lt last.offset step.offset then None else Some kind.Rising

-- the answer to a record behind the last row: its row, or the first rule that it breaks
abbrev pub TellsNext : Option CurveStep → Fields → Result CurveStep RowKind → Type 0
TellsNext last fields (Ok step) = (row_said fields ≡ Ok (row_of step)) × (broken_behind last step ≡ None)
TellsNext last fields (Err k) =
    (row_said fields ≡ Err k) ⊎ ((step : CurveStep) × (row_said fields ≡ Ok (row_of step)) × (broken_behind last step ≡ Some k))

-- no rows, or those of a curve
abbrev pub BeginsCurve : List CurveRow → Type 0
BeginsCurve [] = Unit {0}
BeginsCurve (row ∷ rows) = IsCurve (row ∷ rows)

-- no record, or the header and a record for each row
abbrev pub IsFront : Table → List CurveRow → Type 0
IsFront [] rows = rows ≡ []
IsFront (fields ∷ records) rows = (fields ≡ curve_header) × SayRows records rows × BeginsCurve rows × AreNear rows

-- record n is taken behind those before, or it is the first that breaks a rule
abbrev pub TakesRecord : ℕ → Fields → List CurveRow → List CurveRow → Result (Unit {0}) RowErr → Type 0
TakesRecord n fields before after (Ok _) = (t : Table) → n ≡ length t + 1 → IsFront t before → IsFront (t ++ fields ∷ []) after
TakesRecord n fields before after (Err (Row fault)) =
    (t more : Table) → n ≡ length t + 1 → IsFront t before → IsFirstCurveFault (t ++ fields ∷ more) fault
TakesRecord n fields before after (Err NoMemory) = Unit {0}

-- the answer to n records that say these rows
abbrev pub EndsCurve : ℕ → List CurveRow → Result (List CurveRow) RowErr → Type 0
EndsCurve n rows result = (table : Table) → n ≡ length table → IsFront table rows → AnswersCurve table result
