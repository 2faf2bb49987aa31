-- Of each group of rows the two that tell: all rows of a place, those that hold in each scenario, and those of one scenario.
-- These are for the private steps of reading.
use Rattle.std.specs.Prelude.{◌≡◌, ◌≢◌, ℕ, Option, Some, None, if◌then◌else◌, nat_le}
use Rattle.std.specs.BTreeMap.{BTreeMap, get}
use Rattle.std.specs.declared.cmp.Ordering.{Ordering}
use Rattle.term_model.specs.Environments.{Place}
use Rattle.term_model.specs.declared.values.Value.{Value}
use Rattle.scenario_set.specs.Mentions.{next, none_seen, told_of}
use Rattle.scenario_set.specs.declared.mentions.Mention.{Mention}
use Rattle.scenario_set.specs.Mentions.{Seen}
use Rattle.scenario_set.specs.declared.watches.Group.{Group}
use Rattle.scenario_set.specs.declared.watches.Group.TheVariants.{All, Each, Of}
use Rattle.scenario_set.specs.declared.watches.Spot.{Spot}
use Rattle.scenario_set.specs.declared.watches.Watch.{Watch}
use Rattle.scenario_set.specs.contracts.watches.SpotOrd.TheImpl as spot_ord

-- the order of spots
abbrev pub spot_order : Spot → Spot → Ordering
spot_order = (spot_ord.ghosts).cmp

-- of some groups one row
abbrev pub Rows : Type 0
Rows = BTreeMap Spot Mention

abbrev pub row_of : Rows → Spot → Option Mention
row_of rows spot = get spot_order rows spot

abbrev pub Kept : Type 0
Kept = Watch

-- the two rows of a spot
abbrev pub seen_at : Kept → Spot → Seen
seen_at kept spot = record { first = row_of kept.first spot; other = row_of kept.other spot }

abbrev pub spot_of : Group → Place → Spot
spot_of g q = record { group = g; label = q.label; day = q.day }

abbrev pub group_of : Option ℕ → Group
group_of None = Each
group_of (Some i) = Of i

abbrev pub IsUnseen : Kept → Type 0
IsUnseen kept = (spot : Spot) → seen_at kept spot ≡ none_seen

abbrev pub earlier : Option Mention → Option Mention → Option Mention
earlier (Some a) (Some b) = if nat_le a.number b.number then Some a else Some b
earlier (Some a) None = Some a
earlier None o = o

abbrev pub told_at : Kept → Group → Place → Value → Option Mention
told_at kept g q v = told_of (seen_at kept (spot_of g q)).first (seen_at kept (spot_of g q)).other v

-- the first row that a further one contradicts
abbrev pub clash_in : Kept → Option ℕ → Place → Value → Option Mention
clash_in kept None q v = told_at kept All q v
clash_in kept (Some i) q v = earlier (told_at kept (Of i) q v) (told_at kept Each q v)

-- a row is taken at one spot
pub record Adds (before after : Kept) (spot : Spot) (row : Mention) : Type 0 where
  pub here : seen_at after spot ≡ next (seen_at before spot) row
  pub others : (s : Spot) → s ≢ spot → seen_at after s ≡ seen_at before s

-- a row is taken at its own spot, and at that of all rows of its place
pub record TakesMention (before after : Kept) (own : Option ℕ) (q : Place) (row : Mention) : Type 0 where
  pub at_own : seen_at after (spot_of (group_of own) q) ≡ next (seen_at before (spot_of (group_of own) q)) row
  pub at_all : seen_at after (spot_of All q) ≡ next (seen_at before (spot_of All q)) row
  pub others : (s : Spot) → s ≢ spot_of (group_of own) q → s ≢ spot_of All q → seen_at after s ≡ seen_at before s
