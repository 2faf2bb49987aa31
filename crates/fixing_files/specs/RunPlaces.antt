-- Where a day stands in a run of days, or where it would. These are for the private steps of looking up and adding.
use Rattle.std.specs.Prelude.{◌≡◌, ◌<◌, ◌≤◌, ◌<ℤ◌, ℕ, ℤ, List, length}
use Rattle.fixing_files.specs.Runs.{day_at}
use Rattle.fixing_files.specs.declared.runs.FixedDay.{FixedDay}

-- the day stands at i
pub record IsOn (run : List FixedDay) (t : ℤ) (i : ℕ) : Type 0 where
  pub within : i < length run
  pub day : day_at run i ≡ t

-- the day does not stand in the run, and would at i
pub record IsGapFor (run : List FixedDay) (t : ℤ) (i : ℕ) : Type 0 where
  pub within : i ≤ length run
  pub before : (k : ℕ) → k < i → day_at run k <ℤ t
  pub behind : (k : ℕ) → i ≤ k → k < length run → t <ℤ day_at run k
