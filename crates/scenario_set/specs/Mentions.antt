-- The rows of a group that were met so far. Two of them are kept: the first, and the first with another value than it. They
-- tell, of every value, the first row that says another.
use Rattle.std.specs.Prelude.{◌≢◌, ◌≤◌, Option, Some, None, if◌then◌else◌}
use Rattle.term_model.specs.declared.values.Value.{Value}
use Rattle.fixing_files.specs.Rows.{same_value}
use Rattle.scenario_set.specs.declared.mentions.Mention.{Mention}

-- the first row of a group, and the first with another value than it
pub record Seen : Type 0 where
  pub first : Option Mention
  pub other : Option Mention

-- the row of the least number, or none
abbrev pub FirstIs : (Mention → Type 0) → Option Mention → Type 0
FirstIs In None = (x : Mention) → ¬ (In x)
FirstIs In (Some f) = In f × ((x : Mention) → In x → f.number ≤ x.number)

-- the rows with another value than the first
abbrev pub IsOther : (Mention → Type 0) → Option Mention → Mention → Type 0
IsOther In None x = ⊥
IsOther In (Some f) x = In x × (x.value ≢ f.value)

-- the first row, and the first with another value than it
pub record IsSeen (In : Mention → Type 0) (s : Seen) : Type 0 where
  pub first_is : FirstIs In s.first
  pub other_is : FirstIs (IsOther In s.first) s.other

abbrev pub none_seen : Seen
none_seen = record { first = None; other = None }

abbrev pub told_of : Option Mention → Option Mention → Value → Option Mention
told_of None other v = None
told_of (Some f) other v = if same_value v f.value then other else Some f

abbrev pub or_row : Option Mention → Mention → Option Mention
or_row (Some m) row = Some m
or_row None row = Some row

abbrev pub next_first : Option Mention → Mention → Option Mention
next_first first row = or_row first row

abbrev pub next_other : Option Mention → Option Mention → Mention → Option Mention
next_other None other row = other
next_other (Some f) other row = if same_value f.value row.value then other else or_row other row

-- once another row was met
abbrev pub next : Seen → Mention → Seen
next s row = record { first = next_first s.first row; other = next_other s.first s.other row }
