-- The start of a contract: the day before which it transfers nothing, or none where it never transfers anything.
use Rattle.std.specs.Prelude.{ℤ, Option, Some, None}
use Rattle.time_types.specs.declared.starts.Start.{Start}
use Rattle.time_types.specs.declared.starts.Start.TheVariants.{Day, Always}

abbrev pub start_day : Start → Option ℤ
start_day (Day day) = Some day
start_day Always = None
