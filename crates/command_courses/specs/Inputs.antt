-- The bytes of a command's files, in the order of the files.
use Rattle.std.specs.Prelude.{◌≤◌, ℕ, List, [], length, map, slice_get, Option, option_map}
use Rattle.std.specs.Global.{Vec}
use Rattle.std.specs.List.{All}
use Rattle.std.specs.Option.{option_map_or}
use Rattle.term_model.specs.Limits.{longest_file}

-- the bytes that a program keeps
abbrev pub bytes_of : List (Vec ℕ) → List (List ℕ)
bytes_of inputs = map (λ (bytes : Vec ℕ). bytes.items) inputs

-- the bytes of the file at an index, none where there is none
abbrev pub file_at : List (List ℕ) → ℕ → List ℕ
file_at inputs i = option_map_or (λ bytes. bytes) (slice_get inputs i) []

-- no file is longer than the limit
abbrev pub AreShort : List (List ℕ) → Type 0
AreShort inputs = All (λ bytes. length bytes ≤ longest_file) inputs

-- the table of the fixings, if the words name one: the second file
abbrev pub table_if_named : Option (List ℕ) → List (List ℕ) → Option (List ℕ)
table_if_named fixings inputs = option_map (λ _. file_at inputs 1) fixings
