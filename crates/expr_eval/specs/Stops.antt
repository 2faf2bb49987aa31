-- Where a test stops that is tried on one day after another: on the first day on which it has the truth value that is
-- wanted, or on which it lacks a place.
use Rattle.std.specs.Prelude.{ℕ, zero, suc, ◌+◌, ◌<◌, ◌^◌, Bool, true, false, not, Some, None, Result, Ok, Err, if◌then◌else◌}
use Rattle.term_model.specs.declared.values.Missing.{Missing}
use Rattle.expr_eval.specs.declared.stops.Stop.{Stop}
use Rattle.expr_eval.specs.declared.stops.Stop.TheVariants.{Never, Met, Lacking}
use Rattle.expr_eval.specs.Trials.{DayOrMissing}

-- a truth value, or the place that is lacking
abbrev pub TruthOrMissing : Type 0
TruthOrMissing = Result Bool Missing

-- whether a truth value is the one that is wanted
abbrev pub is_wanted : Bool → Bool → Bool
is_wanted true b = b
is_wanted false b = not b

abbrev pub wanted_of : Bool → TruthOrMissing → TruthOrMissing
wanted_of w (Ok b) = Ok (is_wanted w b)
wanted_of w (Err m) = Err m

-- one day, on which it is met or not
abbrev pub stop_on : ℕ → TruthOrMissing → Stop
stop_on i (Ok b) = if b then Met i else Never
stop_on i (Err m) = Lacking i m

abbrev pub or_stop_on : Stop → ℕ → TruthOrMissing → Stop
or_stop_on Never i r = stop_on i r
or_stop_on (Met k) i r = Met k
or_stop_on (Lacking k m) i r = Lacking k m

-- the first of n days
abbrev pub first_stop : ℕ → (ℕ → TruthOrMissing) → Stop
first_stop zero met = Never
first_stop (suc n) met = or_stop_on (first_stop n met) n (met n)

abbrev pub goes_on : Stop → Bool
goes_on Never = true
goes_on (Met k) = false
goes_on (Lacking k m) = false

-- the days of n that are before it
abbrev pub days_before : Stop → ℕ → ℕ
days_before Never n = n
days_before (Met k) n = k
days_before (Lacking k m) n = k

-- the same, counted from some days earlier
abbrev pub counted_from : Stop → ℕ → Stop
counted_from Never done = Never
counted_from (Met k) done = Met (done + k)
counted_from (Lacking k m) done = Lacking (done + k) m

-- its day then fits 32 bits
abbrev pub IsCounted : Stop → ℕ → Type 0
IsCounted Never done = Unit {0}
IsCounted (Met k) done = done + k < 2 ^ 32
IsCounted (Lacking k m) done = done + k < 2 ^ 32

abbrev pub day_of : Stop → DayOrMissing
day_of Never = Ok None
day_of (Met k) = Ok (Some k)
day_of (Lacking k m) = Err m

-- the right one of two, where there is one
abbrev pub or_first : Stop → Stop → Stop
or_first s Never = s
or_first s (Met k) = Met k
or_first s (Lacking k m) = Lacking k m

-- two tests of which either stops both, the left one first
abbrev pub either_met : TruthOrMissing → TruthOrMissing → TruthOrMissing
either_met (Ok b) r = if b then Ok true else r
either_met (Err m) r = Err m
