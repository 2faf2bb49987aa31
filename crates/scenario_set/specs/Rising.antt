-- What is known of a table whose rows rise after some of its records: which names they have, and that the rows of each scenario,
-- and those of all, are what they say. These are for the private steps of reading.
use Rattle.std.specs.Prelude.{◌≡◌, ◌≢◌, ◌↔◌, ◌⊎◌, ◌≤◌, ◌<◌, ◌<ℤ◌, ◌+◌, ◌^◌, ℕ, Bool, true, false, List, [], ◌∷◌, ◌++◌}
use Rattle.std.specs.Prelude.{length, map, All, Contains, Option, Some, None, Ok, slice_get}
use Rattle.term_model.specs.Declarations.{Declarations}
use Rattle.term_model.specs.Environments.{Environment, Place, held}
use Rattle.term_model.specs.declared.values.Value.{Value}
use Rattle.fixing_files.specs.Records.{Fields}
use Rattle.fixing_files.specs.Tables.{Table}
use Rattle.scenario_set.specs.ScenarioRecords.{Told, told}
use Rattle.scenario_set.specs.ScenarioSteps.{is_header}
use Rattle.scenario_set.specs.Scenarios.{NamedMap, rows_held}
use Rattle.scenario_set.specs.Collecting.{AreNamed, AreSound, IsNumbered, IsSaid}
use Rattle.scenario_set.specs.Settling.{names_of, row_for, rows_at}
use Rattle.scenario_set.specs.Watches.{group_of}
use Rattle.scenario_set.specs.declared.rising.Rising.{Rising}
use Rattle.scenario_set.specs.declared.scenarios.Scenario.{Scenario}
use Rattle.scenario_set.specs.declared.scenarios.SetRow.{SetRow}

-- ---- rows

abbrev pub place_at : SetRow → Place
place_at r = record { label = r.label; day = r.day }

-- the row that a record says
abbrev pub row_told : Told → SetRow
row_told t = row_for t.place t.value

-- the order of places: by labels, and then by days
abbrev pub IsBefore : SetRow → SetRow → Type 0
IsBefore a b = (a.label < b.label) ⊎ ((a.label ≡ b.label) × (a.day <ℤ b.day))

-- each row comes before those behind it
abbrev pub Rise : List SetRow → Type 0
Rise rows = (i j : ℕ) (a b : SetRow) → i < j → slice_get rows i ≡ Some a → slice_get rows j ≡ Some b → IsBefore a b

-- the last of the rows comes before this one
abbrev pub EndsBefore : List SetRow → SetRow → Type 0
EndsBefore rows row = (i : ℕ) (a : SetRow) → i + 1 ≡ length rows → slice_get rows i ≡ Some a → IsBefore a row

abbrev pub AddsBehind : List SetRow → List SetRow → SetRow → Bool → Type 0
AddsBehind before after row true = EndsBefore before row × (after ≡ before ++ row ∷ [])
AddsBehind before after row false = Unit {0}

-- no place of the rows is held
abbrev pub AreApart : List SetRow → Environment → Type 0
AreApart rows env = All (λ r. held env (place_at r) ≡ None) rows

-- ---- the rows of scenarios

-- scenario i is one of them, or the next one, of this name
abbrev pub IsNext : List Scenario → List Scenario → ℕ → List ℕ → Type 0
IsNext each after i name =
    ((i < length each) × (names_of after ≡ names_of each))
    ⊎ ((i ≡ length each) × (names_of after ≡ names_of each ++ name ∷ []))

-- there is scenario i, and the rows are as they were
pub record Reaches (each after : List Scenario) (i : ℕ) (name : List ℕ) : Type 0 where
  pub same : (j : ℕ) → rows_at after j ≡ rows_at each j
  pub next : IsNext each after i name

-- a row comes behind those of scenario i
pub record AddsTo (each after : List Scenario) (i : ℕ) (name : List ℕ) (row : SetRow) : Type 0 where
  pub behind : EndsBefore (rows_at each i) row
  pub here : rows_at after i ≡ rows_at each i ++ row ∷ []
  pub others : (j : ℕ) → j ≢ i → rows_at after j ≡ rows_at each j
  pub next : IsNext each after i name

abbrev pub AddsOwn : List Scenario → List Scenario → ℕ → List ℕ → SetRow → Bool → Type 0
AddsOwn each after i name row true = AddsTo each after i name row
AddsOwn each after i name row false = Unit {0}

-- ---- one record

-- the rows of one scenario, or those of all
abbrev pub rows_for : Rising → Option ℕ → List SetRow
rows_for r None = r.common.items
rows_for r (Some i) = rows_at r.each.items i

-- there is a scenario for each name
abbrev pub IsLong : Rising → Type 0
IsLong r = names_of r.each.items ≡ r.names.keys

-- what a record says comes behind the other rows of its scenario, or of those that count for each
pub record AddsRow (t : Told) (before after : Rising) : Type 0 where
  pub own : Option ℕ
  pub numbered : IsNumbered before.names.keys after.names.keys t.scope own
  pub behind : EndsBefore (rows_for before own) (row_told t)
  pub here : rows_for after own ≡ rows_for before own ++ row_told t ∷ []
  pub others : (o : Option ℕ) → o ≢ own → rows_for after o ≡ rows_for before o
  pub long : IsLong after

abbrev pub TakesRow : Told → Rising → Rising → Bool → Type 0
TakesRow t before after true = AddsRow t before after
TakesRow t before after false = Unit {0}

-- the answer to record n: it is the header, or what it says is added; or the table has to be read otherwise
abbrev pub TakesRising : Declarations → ℕ → Fields → Rising → Rising → Bool → Type 0
TakesRising d n fields before after true =
    ((n ≡ 1) × (is_header fields ≡ true) × (after ≡ before))
    ⊎ ((2 ≤ n) × (t : Told) × (told d fields ≡ Ok t) × AddsRow t before after)
TakesRising d n fields before after false = Unit {0}

-- ---- the records so far

-- of the first m records each is sound by itself, and the rows are what they say
pub record Rises (d : Declarations) (table : Table) (m : ℕ) (r : Rising) : Type 0 where
  pub alone : AreSound d table m
  pub are_named : AreNamed d table m r.names.keys
  pub long : IsLong r
  pub rise : (o : Option ℕ) → Rise (rows_for r o)
  pub says :
      (o : Option ℕ) (q : Place) (v : Value)
      → Contains (rows_for r o) (row_for q v)
      ↔ ((n : ℕ) × IsSaid d table m r.names.keys (group_of o) q (record { number = n; value = v }))

-- ---- all records

pub record GathersRows (d : Declarations) (table : Table) (r : Rising) : Type 0 where
  pub rises : Rises d table (length table) r
  pub some : 1 ≤ length r.names.keys
  pub few : length r.names.keys < 2 ^ 32

-- the maps are those of the rows, and no scenario has a place of all
pub record AreAll (r : Rising) (set : List NamedMap) : Type 0 where
  pub names_are : map (λ s. s.name) set ≡ r.names.keys
  pub holds :
      (i : ℕ) (s : NamedMap) → slice_get set i ≡ Some s → (q : Place) (v : Value)
      → Contains s.map (q, v)
      ↔ (Contains (rows_for r (Some i)) (row_for q v) ⊎ Contains (rows_for r None) (row_for q v))
  pub apart : (i : ℕ) → AreApart (rows_for r (Some i)) (rows_held r.common.items)
