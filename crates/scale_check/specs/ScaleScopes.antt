-- The scale of a name that was looked for. A truth value has scale 0.
use Rattle.std.specs.Prelude.{ℕ, Option, Some, None}

abbrev pub found_scale : Option ℕ → ℕ
found_scale None = 0
found_scale (Some s) = s
