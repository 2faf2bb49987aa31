-- Fixings as they are kept: for each label, by its number, a run of days in rising order, each with its value. What they
-- stand for is a finite map from places to values.
use Rattle.std.specs.Prelude.{◌≡◌, ◌↔◌, ◌<◌, ◌<ℤ◌, ◌+◌, ℕ, zero, suc, ℤ, pos, false, List, [], ◌∷◌, ◌++◌, length, Option, Some, None, if◌then◌else◌, slice_index_or, Contains}
use Rattle.std.specs.Ordering.{int_eq}
use Rattle.std.specs.declared.vec.Vec.{Vec}
use Rattle.std.specs.declared.alloc.Global.{Global}
use Rattle.term_model.specs.Environments.{Environment, Place, same_place, held, value_or}
use Rattle.term_model.specs.declared.values.Value.{Value}
use Rattle.term_model.specs.declared.values.Value.TheVariants.{Truth}
use Rattle.fixing_files.specs.declared.runs.FixedDay.{FixedDay}

abbrev pub no_day : FixedDay
no_day = record { day = pos 0; value = Truth false }

abbrev pub day_at : List FixedDay → ℕ → ℤ
day_at run i = (slice_index_or run i no_day).day

-- each day is below those after it
abbrev pub IsRising : List FixedDay → Type 0
IsRising run = (i j : ℕ) → i < j → j < length run → day_at run i <ℤ day_at run j

-- the value of a day
abbrev pub value_on : List FixedDay → ℤ → Option Value
value_on [] t = None
value_on (f ∷ run) t = if int_eq f.day t then Some f.value else value_on run t

-- the run of a label
abbrev pub run_at : List (Vec FixedDay Global) → ℕ → List FixedDay
run_at [] l = []
run_at (run ∷ more) zero = run.items
run_at (run ∷ more) (suc l) = run_at more l

-- each run rises
abbrev pub AreRising : List (Vec FixedDay Global) → Type 0
AreRising runs = (l : ℕ) → IsRising (run_at runs l)

-- the values of a label, by places
abbrev pub placed_at : ℕ → List FixedDay → Environment
placed_at l [] = []
placed_at l (f ∷ run) = (record { label = l; day = f.day }, f.value) ∷ placed_at l run

-- the values of the labels from l on
abbrev pub values_from : ℕ → List (Vec FixedDay Global) → Environment
values_from l [] = []
values_from l (run ∷ more) = placed_at l run.items ++ values_from (l + 1) more

abbrev pub values_of : List (Vec FixedDay Global) → Environment
values_of runs = values_from 0 runs

-- a run has a day with a value exactly where the map holds it at the label
abbrev pub LendsDays : Environment → ℕ → List FixedDay → Type 0
LendsDays env l run =
    (t : ℤ) (v : Value)
    → Contains run (record { day = t; value = v }) ↔ (held env (record { label = l; day = t }) ≡ Some v)

-- a pair is added to a map, and nothing else changes
abbrev pub AddsPair : Environment → Environment → Place → Value → Type 0
AddsPair before after q v = (p : Place) → held after p ≡ (if same_place q p then Some v else held before p)

-- a pair is added unless the place is held already, and nothing else changes
abbrev pub AddsUnlessHeld : Environment → Environment → Place → Value → Type 0
AddsUnlessHeld before after q v =
    (p : Place) → held after p ≡ (if same_place q p then Some (value_or (held before q) v) else held before p)
