-- The line and the column of a position in a text. Lines are counted from 1 and end with a line feed; the column counts
-- the bytes of the line from 1.
use Rattle.std.specs.Prelude.{ℕ, ◌+◌, ◌==◌, List, take, count_by, reverse, not}
use Rattle.std.specs.List.{prefix_len}

abbrev pub line_at : List ℕ → ℕ → ℕ
line_at bytes at = 1 + count_by (λ b. b == 10) (take at bytes)

abbrev pub column_at : List ℕ → ℕ → ℕ
column_at bytes at = 1 + prefix_len (λ b. not (b == 10)) (reverse (take at bytes))
