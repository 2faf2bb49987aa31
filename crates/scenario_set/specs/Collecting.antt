-- What is known of a table of scenarios after some of its records: none of them broke a rule, the names are those of the scenarios
-- in the order of their first records, and of each group of rows the two that tell are kept. These are for the private steps of
-- reading.
use Rattle.std.specs.Prelude.{◌≡◌, ◌≢◌, ◌⊎◌, ◌≤◌, ◌<◌, ◌^◌, ℕ, true, false, List}
use Rattle.std.specs.Prelude.{[], ◌∷◌, ◌++◌, length, Option, Some, None, Result, Ok, Err, slice_get}
use Rattle.term_model.specs.Declarations.{Declarations}
use Rattle.term_model.specs.Environments.{Place}
use Rattle.fixing_files.specs.Records.{Fields}
use Rattle.fixing_files.specs.Tables.{Table}
use Rattle.fixing_files.specs.declared.faults.RowErr.{RowErr}
use Rattle.fixing_files.specs.declared.faults.RowErr.TheVariants.{Row, NoMemory}
use Rattle.fixing_files.specs.declared.faults.RowKind.{RowKind}
use Rattle.fixing_files.specs.declared.faults.RowKind.TheVariants.{Shape, Conflict}
use Rattle.scenario_set.specs.Scopes.{Scope}
use Rattle.scenario_set.specs.ScenarioRecords.{Told, told}
use Rattle.scenario_set.specs.ScenarioSteps.{is_header}
use Rattle.scenario_set.specs.ScenarioTables.{BreaksAlone, Contradicts, IsFirstFault, IsFirstOf, LacksHeader, Tells}
use Rattle.scenario_set.specs.Mentions.{IsSeen}
use Rattle.scenario_set.specs.Watches.{Kept, TakesMention, clash_in, seen_at, spot_of}
use Rattle.scenario_set.specs.declared.drafts.Draft.{Draft}
use Rattle.scenario_set.specs.declared.mentions.Mention.{Mention}
use Rattle.scenario_set.specs.declared.watches.Group.{Group}
use Rattle.scenario_set.specs.declared.watches.Group.TheVariants.{All, Each, Of}

abbrev pub Names : Type 0
Names = List (List ℕ)

-- ---- one record

-- a name has a number among the scenarios, a new one where it was not among them
pub record HasNumber (before after : Names) (name : List ℕ) (i : ℕ) : Type 0 where
  pub is : slice_get after i ≡ Some name
  pub from : (after ≡ before) ⊎ ((after ≡ before ++ name ∷ []) × ((j : ℕ) → slice_get before j ≢ Some name))

-- the number of the scenario for which a record counts, or none for each
abbrev pub IsNumbered : Names → Names → Scope → Option ℕ → Type 0
IsNumbered before after None own = (own ≡ None) × (after ≡ before)
IsNumbered before after (Some name) own = (i : ℕ) × (own ≡ Some i) × HasNumber before after name i

-- what record n says is taken: it contradicts no earlier row
pub record Takes (t : Told) (n : ℕ) (names after : Names) (kept now : Kept) : Type 0 where
  pub own : Option ℕ
  pub numbered : IsNumbered names after t.scope own
  pub agrees : clash_in kept own t.place t.value ≡ None
  pub taken : TakesMention kept now own t.place (record { number = n; value = t.value })

-- what a record says contradicts the row of record e
pub record Clashes (t : Told) (names after : Names) (kept : Kept) (e : ℕ) : Type 0 where
  pub own : Option ℕ
  pub numbered : IsNumbered names after t.scope own
  pub row : Mention
  pub clash : clash_in kept own t.place t.value ≡ Some row
  pub number : row.number ≡ e

abbrev pub TakesTold : Told → ℕ → Draft → Draft → Option RowKind → Type 0
TakesTold t n before after None = Takes t n before.names.keys after.names.keys before.watch after.watch
TakesTold t n before after (Some kind) = (e : ℕ) × (kind ≡ Conflict e) × Clashes t before.names.keys after.names.keys before.watch e

-- the answer to record n: it is the header, or what it says is taken; or it breaks a rule
abbrev pub TakesRecord : Declarations → ℕ → Fields → Draft → Draft → Option RowKind → Type 0
TakesRecord d n fields before after None =
    ((n ≡ 1) × (is_header fields ≡ true) × (after ≡ before))
    ⊎ ((2 ≤ n) × (t : Told) × (told d fields ≡ Ok t) × TakesTold t n before after None)
TakesRecord d n fields before after (Some kind) =
    ((n ≡ 1) × (is_header fields ≡ false) × (kind ≡ Shape))
    ⊎ ((2 ≤ n) × ((told d fields ≡ Err kind) ⊎ ((t : Told) × (told d fields ≡ Ok t) × TakesTold t n before after (Some kind))))

-- ---- the records so far

-- a row counts in a group
abbrev pub IsIn : Names → Group → Scope → Type 0
IsIn names All s = Unit {0}
IsIn names Each s = s ≡ None
IsIn names (Of i) s = (name : List ℕ) × (slice_get names i ≡ Some name) × (s ≡ Some name)

-- one of the first m records says this of a group at a place
pub record IsSaid (d : Declarations) (table : Table) (m : ℕ) (names : Names) (g : Group) (q : Place) (x : Mention) : Type 0 where
  pub few : x.number ≤ m
  pub told : Told
  pub tells : Tells d table x.number told
  pub place : told.place ≡ q
  pub value : told.value ≡ x.value
  pub within : IsIn names g told.scope

-- the two rows of each group are kept
abbrev pub AreSeen : Declarations → Table → ℕ → Names → Kept → Type 0
AreSeen d table m names kept = (g : Group) (q : Place) → IsSeen (IsSaid d table m names g q) (seen_at kept (spot_of g q))

-- the names are those of the first m records, in their order
pub record AreNamed (d : Declarations) (table : Table) (m : ℕ) (names : Names) : Type 0 where
  pub few : length names ≤ m
  pub named : (i : ℕ) (name : List ℕ) → slice_get names i ≡ Some name → (n : ℕ) × (n ≤ m) × IsFirstOf d table name n
  pub listed :
      (n : ℕ) (t : Told) (name : List ℕ) → n ≤ m → Tells d table n t → t.scope ≡ Some name
      → (i : ℕ) × (slice_get names i ≡ Some name)
  pub ordered :
      (i j n k : ℕ) (a b : List ℕ) → i < j → slice_get names i ≡ Some a → slice_get names j ≡ Some b
      → IsFirstOf d table a n → IsFirstOf d table b k → n < k

-- of the first m records the first is the header, and none breaks a rule by itself
abbrev pub AreSound : Declarations → Table → ℕ → Type 0
AreSound d table m = (n : ℕ) (k : RowKind) → n ≤ m → ¬ (LacksHeader table n k ⊎ BreaksAlone d table n k)

-- none of the first m records contradicts an earlier one
abbrev pub Agree : Declarations → Table → ℕ → Type 0
Agree d table m = (n e : ℕ) → n ≤ m → ¬ (Contradicts d table n e)

-- of the first m records none breaks a rule
pub record Collects (d : Declarations) (table : Table) (m : ℕ) (names : Names) (kept : Kept) : Type 0 where
  pub alone : AreSound d table m
  pub agree : Agree d table m
  pub are_named : AreNamed d table m names
  pub are_seen : AreSeen d table m names kept

-- ---- all records

abbrev pub Gathers : Declarations → Table → Result Draft RowErr → Type 0
Gathers d table (Ok draft) =
    Collects d table (length table) draft.names.keys draft.watch
    × (1 ≤ length draft.names.keys) × (length draft.names.keys < 2 ^ 32)
Gathers d table (Err (Row fault)) = IsFirstFault d table fault
Gathers d table (Err NoMemory) = Unit {0}
