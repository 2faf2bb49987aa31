-- How single records are read. These are for the private steps of reading; `Tables` says what a whole table means.
use Rattle.std.specs.Prelude.{◌≡◌, ℕ, ◌&&◌, Bool, false, List, [], ◌∷◌, Option, Some, None, Result, Ok, Err, codes}
use Rattle.std.specs.Str.{bytes_eq}
use Rattle.term_model.specs.Environments.{Place}
use Rattle.term_model.specs.declared.values.Value.{Value}
use Rattle.fixing_files.specs.Records.{Fields}
use Rattle.fixing_files.specs.declared.faults.RowKind.{RowKind}
use Rattle.fixing_files.specs.declared.records.Place.{Place as Spot}

abbrev pub place_of : Spot → Place
place_of s = record { label = s.label; day = s.day }

-- three fields
abbrev pub three_of : Fields → Option (List ℕ × List ℕ × List ℕ)
three_of (a ∷ b ∷ c ∷ []) = Some (a, b, c)
three_of _ = None

abbrev pub are_header : Option (List ℕ × List ℕ × List ℕ) → Bool
are_header None = false
are_header (Some r) = bytes_eq r.0 (codes "label") && (bytes_eq r.1 (codes "day") && bytes_eq r.2 (codes "value"))

abbrev pub is_header : Fields → Bool
is_header fields = are_header (three_of fields)

-- the answer to what a record says
abbrev pub Tells : Result (Place × Value) RowKind → Result (Spot × Value) RowKind → Type 0
Tells meaning (Ok p) = meaning ≡ Ok (place_of p.0, p.1)
Tells meaning (Err kind) = meaning ≡ Err kind
