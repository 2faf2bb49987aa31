-- Scenarios as they are kept: the rows of each beside its name, and once the rows that hold in all. What they stand for is a
-- list of names, each with its map of places.
use Rattle.std.specs.Prelude.{◌≡◌, ℕ, List, ◌++◌, map, Some, slice_get}
use Rattle.term_model.specs.Declarations.{Declarations}
use Rattle.term_model.specs.Environments.{Environment, IsAdmitted, Place}
use Rattle.term_model.specs.declared.values.Value.{Value}
use Rattle.fixing_files.specs.Layers.{HoldSame}
use Rattle.scenario_set.specs.declared.scenarios.SetRow.{SetRow}
use Rattle.scenario_set.specs.declared.scenarios.Scenario.{Scenario}

-- a scenario: a name and a map
pub record NamedMap : Type 0 where
  pub name : List ℕ
  pub map : Environment

-- what a row holds
abbrev pub row_held : SetRow → Place × Value
row_held r = (record { label = r.label; day = r.day }, r.value)

abbrev pub rows_held : List SetRow → Environment
rows_held rows = map row_held rows

-- the own rows of a scenario count, and behind them what holds in all
abbrev pub map_of : Environment → Scenario → NamedMap
map_of common s = record { name = s.name; map = rows_held s.own.items ++ common }

abbrev pub maps_of : Environment → List Scenario → List NamedMap
maps_of common each = map (map_of common) each

-- what rows hold is added, but for the places that are held already
abbrev pub AddsRows : Environment → Environment → List SetRow → Type 0
AddsRows before after rows = HoldSame after (before ++ rows_held rows)

-- the map of scenario i
pub record IsMapOf (set : List NamedMap) (i : ℕ) (env : Environment) : Type 0 where
  pub scenario : NamedMap
  pub stands : slice_get set i ≡ Some scenario
  pub same : HoldSame env scenario.map

-- each map is admitted by the declarations
abbrev pub AreAdmitted : Declarations → List NamedMap → Type 0
AreAdmitted d set = (i : ℕ) (s : NamedMap) → slice_get set i ≡ Some s → IsAdmitted d s.map

-- the same names in the same order, each with the same map
pub record SameScenarios (one other : List NamedMap) : Type 0 where
  pub names : map (λ s. s.name) one ≡ map (λ s. s.name) other
  pub maps :
      (i : ℕ) (s t : NamedMap) → slice_get one i ≡ Some s → slice_get other i ≡ Some t → HoldSame s.map t.map
