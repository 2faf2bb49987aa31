-- The bytes of a command's files are short, and so is the table among them.
use Rattle.std.proofs.Common.{◌≤◌, ℕ, suc, zero, List, [], ◌∷◌, arith, length}
use Rattle.std.specs.Prelude.{Option, Some, None, option_map}
use Rattle.std.proofs.lemmas.List.Elements.{All-head, All-tail}
use Rattle.term_model.specs.Limits.{longest_file}
use Rattle.command_courses.specs.FixingTables.{IsShortTable}
use Rattle.command_courses.specs.Inputs.{AreShort, file_at}

-- no file is longer than the limit
pub file_short : (inputs : List (List ℕ)) (i : ℕ) → AreShort inputs → length (file_at inputs i) ≤ longest_file
file_short [] i h = omega arith
file_short (bytes ∷ others) zero h = All-head (λ (x : List ℕ). length x ≤ longest_file) bytes others h
file_short (bytes ∷ others) (suc i) h = file_short others i (All-tail (λ (x : List ℕ). length x ≤ longest_file) bytes others h)

-- a table that the words may name is no longer
pub table_short : {A : Type 0} (named : Option A) (bytes : List ℕ) → length bytes ≤ longest_file → IsShortTable (option_map (λ _. bytes) named)
table_short None bytes h = tt
table_short (Some word) bytes h = h
