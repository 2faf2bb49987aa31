-- The scenarios of a table that breaks no rule: their names, and at each place the first value that is kept. These are for the
-- private steps of reading.
use Rattle.std.specs.Prelude.{◌≡◌, ◌≢◌, ◌↔◌, ◌⊎◌, ◌<◌, ℕ, zero, suc, List, [], ◌∷◌, ◌++◌, map, Contains, Some, slice_get}
use Rattle.term_model.specs.Environments.{Place}
use Rattle.term_model.specs.declared.values.Value.{Value}
use Rattle.scenario_set.specs.Collecting.{Names}
use Rattle.scenario_set.specs.Scenarios.{NamedMap}
use Rattle.scenario_set.specs.Watches.{Rows, row_of, spot_of}
use Rattle.scenario_set.specs.declared.scenarios.Scenario.{Scenario}
use Rattle.scenario_set.specs.declared.scenarios.SetRow.{SetRow}
use Rattle.scenario_set.specs.declared.mentions.Mention.{Mention}
use Rattle.scenario_set.specs.declared.watches.Group.{Group}
use Rattle.scenario_set.specs.declared.watches.Group.TheVariants.{All, Each, Of}
use Rattle.scenario_set.specs.declared.watches.Spot.{Spot}

abbrev pub names_of : List Scenario → Names
names_of each = map (λ s. s.name) each

-- the own rows of scenario i
abbrev pub rows_at : List Scenario → ℕ → List SetRow
rows_at [] i = []
rows_at (s ∷ each) zero = s.own.items
rows_at (s ∷ each) (suc i) = rows_at each i

-- scenarios of these names, without rows
pub record AreUnfilled (names : Names) (each : List Scenario) : Type 0 where
  pub names_are : names_of each ≡ names
  pub no_rows : (i : ℕ) → rows_at each i ≡ []

-- the group is one that there is
abbrev pub IsWithin : Group → ℕ → Type 0
IsWithin All n = Unit {0}
IsWithin Each n = Unit {0}
IsWithin (Of i) n = i < n

-- a row comes behind the own rows of scenario i
pub record PutsOwn (each after : List Scenario) (i : ℕ) (row : SetRow) : Type 0 where
  pub names : names_of after ≡ names_of each
  pub here : rows_at after i ≡ rows_at each i ++ row ∷ []
  pub others : (j : ℕ) → j ≢ i → rows_at after j ≡ rows_at each j

-- a row comes behind the others of its group
abbrev pub PutsRow : List SetRow → List Scenario → List SetRow → List Scenario → Group → SetRow → Type 0
PutsRow common each common_after after All row = (common_after ≡ common) × (after ≡ each)
PutsRow common each common_after after Each row = (common_after ≡ common ++ row ∷ []) × (after ≡ each)
PutsRow common each common_after after (Of i) row = (common_after ≡ common) × PutsOwn each after i row

-- the row that a spot gives
abbrev pub row_at : Spot → Mention → SetRow
row_at spot f = record { label = spot.label; day = spot.day; value = f.value }

-- the first value that is kept of a group at a place
abbrev pub IsFirst : Rows → Group → SetRow → Type 0
IsFirst firsts g r =
    (f : Mention) × (row_of firsts (spot_of g (record { label = r.label; day = r.day })) ≡ Some f) × (f.value ≡ r.value)

-- each group of which a row is kept is one that there is
abbrev pub AreWithin : Rows → ℕ → Type 0
AreWithin firsts n = (spot : Spot) (f : Mention) → row_of firsts spot ≡ Some f → IsWithin spot.group n

-- the rows are the first values
pub record Fills (firsts : Rows) (common : List SetRow) (each : List Scenario) : Type 0 where
  pub common_is : (r : SetRow) → Contains common r ↔ IsFirst firsts Each r
  pub own_is : (i : ℕ) (r : SetRow) → Contains (rows_at each i) r ↔ IsFirst firsts (Of i) r

-- the row of a place with a value
abbrev pub row_for : Place → Value → SetRow
row_for q v = record { label = q.label; day = q.day; value = v }

-- the scenarios have these names, and their maps the first values
pub record Settles (names : Names) (firsts : Rows) (set : List NamedMap) : Type 0 where
  pub names_are : map (λ s. s.name) set ≡ names
  pub holds :
      (i : ℕ) (s : NamedMap) → slice_get set i ≡ Some s → (q : Place) (v : Value)
      → Contains s.map (q, v)
      ↔ (IsFirst firsts (Of i) (row_for q v) ⊎ IsFirst firsts Each (row_for q v))
