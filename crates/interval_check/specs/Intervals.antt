-- The program's intervals as those of the model; and a mantissa, or an interval, where it is at most 10^37 in size.
pub use Rattle.decimal.specs.Mantissas.{mantissa}
use Rattle.std.specs.Prelude.{Option, Some, None, if◌then◌else◌}
use Rattle.term_model.specs.Bounds.{Interval, fits}
use Rattle.interval_check.specs.declared.intervals.Interval.{Interval as Ends}
use Rattle.interval_check.specs.Safety.{IsSmall}

abbrev pub interval : Ends → Interval
interval i = record { low = i.low; high = i.high }

abbrev pub found : Option Ends → Option Interval
found None = None
found (Some i) = Some (interval i)

abbrev pub fitting : Interval → Option Interval
fitting i = if fits i then Some i else None

-- both end points are at most 10^37 in size
pub record EndsFit (i : Interval) : Type 0 where
  pub low : IsSmall i.low
  pub high : IsSmall i.high
