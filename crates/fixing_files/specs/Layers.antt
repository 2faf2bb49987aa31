-- Fixings in two layers: a few, kept in the order of their places, count before those below them.
use Rattle.std.specs.Prelude.{◌≡◌, ◌<◌, ◌++◌, ◌-◌, ℕ, List, false, length, map, pos, Option, Some, None, slice_index_or}
use Rattle.std.specs.Borrow.{Bor}
use Rattle.std.specs.declared.cmp.Ordering.{Ordering}
use Rattle.std.specs.declared.cmp.Ordering.TheVariants.{Less}
use Rattle.term_model.specs.Environments.{Environment, Place, held}
use Rattle.term_model.specs.declared.values.Value.{Value}
use Rattle.term_model.specs.declared.values.Value.TheVariants.{Truth}
use Rattle.fixing_files.specs.Steps.{place_of}
use Rattle.fixing_files.specs.contracts.records.PlaceOrd.TheImpl as place_ord
use Rattle.fixing_files.specs.declared.records.Place.{Place as Spot}

-- the order of places: by labels, and then by days
abbrev pub place_order : Spot → Spot → Ordering
place_order = (place_ord.ghosts).cmp

abbrev pub entry_held : Spot × Value → Place × Value
entry_held e = (place_of e.0, e.1)

-- the map of entries
abbrev pub entries_held : List (Spot × Value) → Environment
entries_held entries = map entry_held entries

abbrev pub no_entry : Spot × Value
no_entry = (record { label = 0; day = pos 0 }, Truth false)

abbrev pub spot_at : List (Spot × Value) → ℕ → Spot
spot_at entries i = (slice_index_or entries i no_entry).0

-- each place comes before those after it
abbrev pub AreInOrder : List (Spot × Value) → Type 0
AreInOrder entries = (i j : ℕ) → i < j → j < length entries → place_order (spot_at entries i) (spot_at entries j) ≡ Less

-- a place comes behind the last of them, if there is one
abbrev pub ComesBehind : List (Spot × Value) → Spot → Type 0
ComesBehind entries x = 0 < length entries → place_order (spot_at entries (length entries - 1)) x ≡ Less

-- what the upper layer holds, where there is one, and behind it what the lower one does
abbrev pub laid_over : Option (Bor Environment) → Environment → Environment
laid_over None below = below
laid_over (Some above) below = above.now ++ below

-- two maps hold the same values
abbrev pub HoldSame : Environment → Environment → Type 0
HoldSame one other = (q : Place) → held one q ≡ held other q
