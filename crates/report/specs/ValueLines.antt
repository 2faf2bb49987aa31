-- The line of a value: the number with its decimals, and a minus before it where it is below 0.
use Rattle.std.specs.Prelude.{ℕ, ℤ, List, ◌++◌}
use Rattle.decimal.specs.Text.{text_of}
use Rattle.report.specs.CheckLines.{line_feed}

abbrev pub value_text : ℤ → ℕ → List ℕ
value_text m scale = text_of m scale ++ line_feed
