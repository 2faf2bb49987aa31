-- The sum of flow tables that come one after another: payments that come to what the tables do, however they were
-- netted on the way.
use Rattle.std.specs.Prelude.{ℕ, ℤ, pos, ◌≡◌, ◌≤◌, ◌&&◌, Bool, unsigned_abs, nat_lt, length, map}
use Rattle.std.specs.Prelude.{List, [], ◌∷◌, ◌++◌, if◌then◌else◌}
use Rattle.std.specs.List.{All, Contains, sum_by}
use Rattle.flow_eval.specs.declared.flow_table.FlowRow.{FlowRow}
use Rattle.flow_eval.specs.declared.flow_table.FlowTable.{FlowTable}
use Rattle.flow_eval.specs.declared.flow_table.Slot.{Slot}
use Rattle.flow_eval.specs.declared.payments.Payment.{Payment}
use Rattle.report.specs.Sums.{sum_over}
use Rattle.report.specs.SumTables.{AreSummable, IsSumOf, payment_of, payments_of}
use Rattle.report.specs.declared.sums.FlowSum.{FlowSum}

-- what a payment adds at the slots that are asked for: one between a party and itself adds nothing
abbrev pub added_at : (Slot → Bool) → Payment → ℤ
added_at is_asked p = if is_asked p.slot && nat_lt p.slot.lower p.slot.higher then p.amount else pos 0

abbrev pub sum_at : (Slot → Bool) → List Payment → ℤ
sum_at is_asked payments = sum_over payments (added_at is_asked)

-- and the size of one
abbrev pub size_at : (Slot → Bool) → Payment → ℕ
size_at is_asked p = if is_asked p.slot then unsigned_abs p.amount else 0

abbrev pub sizes_at : (Slot → Bool) → List Payment → ℕ
sizes_at is_asked payments = sum_by (size_at is_asked) payments

-- one of the payments is at the slot of this one
pub record StandsAmong (payments : List Payment) (p : Payment) : Type 0 where
  pub other : Payment
  pub held : Contains payments other
  pub same : p.slot ≡ other.slot

-- payments that come to what others do: as much at whichever slots, with sizes that are no more, and each where one of the others is
pub record ComeTo (others payments : List Payment) : Type 0 where
  pub same : (is_asked : Slot → Bool) → sum_at is_asked payments ≡ sum_at is_asked others
  pub within : (is_asked : Slot → Bool) → sizes_at is_asked payments ≤ sizes_at is_asked others
  pub among : All (StandsAmong others) payments

-- the rows say what the tables come to
abbrev pub AreNetOf : List FlowTable → List FlowRow → Type 0
AreNetOf tables rows = ComeTo (payments_of tables) (map payment_of rows)

-- the sum of these tables
pub record IsSumSoFar (tables : List FlowTable) (sum : FlowSum) : Type 0 where
  pub summable : AreSummable tables
  pub come : ComeTo (payments_of tables) sum.payments.items

-- whichever tables were added before
abbrev pub AddsTable : FlowTable → FlowSum → FlowSum → Type 0
AddsTable table before after =
    (tables : List FlowTable) → IsSumSoFar tables before → IsSumSoFar (tables ++ table ∷ []) after

abbrev pub KeepsSum : FlowSum → FlowSum → Type 0
KeepsSum before after = (tables : List FlowTable) → IsSumSoFar tables before → IsSumSoFar tables after

-- the sum of few enough tables
pub record IsSumOfFew (sum : FlowSum) : Type 0 where
  pub tables : List FlowTable
  pub is : IsSumSoFar tables sum
  pub few : length tables ≤ 16_777_216

-- the rows are those of the sum of whichever tables were added
abbrev pub TellsSum : FlowSum → List FlowRow → Type 0
TellsSum sum rows = (tables : List FlowTable) → IsSumSoFar tables sum → IsSumOf tables rows × AreNetOf tables rows
