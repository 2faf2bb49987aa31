-- Payments in order of their slots, netted slot by slot into rows of a flow table.
use Rattle.std.specs.Prelude.{◌≡◌, ◌⊎◌, ℕ, ℤ, pos, neg_ℤ, ◌+ℤ◌, ◌^◌, ◌≤◌, ◌≤ℤ◌, ◌==◌, ◌&&◌, Bool, int_lt, List, [], ◌∷◌, ◌++◌, if◌then◌else◌, unsigned_abs}
use Rattle.std.specs.List.{All, sum_by}
use Rattle.std.specs.List.Sorted.{IsPermutation}
use Rattle.std.specs.Ordering.{int_eq}
use Rattle.flow_eval.specs.declared.flow_table.FlowRow.{FlowRow}
use Rattle.flow_eval.specs.declared.flow_table.Slot.{Slot}
use Rattle.flow_eval.specs.declared.payments.Payment.{Payment}
use Rattle.flow_eval.specs.Tables.{Precedes}

abbrev pub same_slot : Slot → Slot → Bool
same_slot a b = int_eq a.day b.day && ((a.asset == b.asset) && ((a.lower == b.lower) && (a.higher == b.higher)))

-- a sum, and a further payment at its slot
abbrev pub joined : Payment → Payment → Payment
joined sum p = record sum { amount = sum.amount +ℤ p.amount }

-- the sum that is open once a payment is taken in
abbrev pub taken_in : Payment → Payment → Payment
taken_in sum p = if same_slot sum.slot p.slot then joined sum p else p

-- a sum in the direction in which it is positive
abbrev pub row_of : Payment → FlowRow
row_of p =
    if int_lt (pos 0) p.amount
    then record { day = p.slot.day; asset = p.slot.asset; from = p.slot.lower; to = p.slot.higher; amount = p.amount }
    else record { day = p.slot.day; asset = p.slot.asset; from = p.slot.higher; to = p.slot.lower; amount = neg_ℤ p.amount }

-- the row of a sum, if it is not 0
abbrev pub closed : Payment → List FlowRow
closed p = if int_eq p.amount (pos 0) then [] else row_of p ∷ []

-- the rows of an open sum and the payments after it
abbrev pub rows_from : Payment → List Payment → List FlowRow
rows_from sum [] = closed sum
rows_from sum (p ∷ ps) = if same_slot sum.slot p.slot then rows_from (joined sum p) ps else closed sum ++ rows_from p ps

-- taking in a payment changes no row: those written and those to come are the same, whatever follows
abbrev pub TakesIn : Payment → Payment → Payment → List FlowRow → List FlowRow → Type 0
TakesIn p sum next before after = (rest : List Payment) → after ++ rows_from next rest ≡ before ++ rows_from sum (p ∷ rest)

abbrev pub rows_of : List Payment → List FlowRow
rows_of [] = []
rows_of (p ∷ ps) = rows_from p ps

-- the size of a payment that stands at a slot
abbrev pub size_at : Slot → Payment → ℕ
size_at s p = if same_slot s p.slot then unsigned_abs p.amount else 0

-- at each slot the sizes of the payments add up to so little that no sum of them overflows
abbrev pub CanBeNetted : List Payment → Type 0
CanBeNetted ps = (s : Slot) → sum_by (size_at s) ps ≤ 10 ^ 36

-- each amount is at most so large
abbrev pub AreSmall : ℕ → List Payment → Type 0
AreSmall most ps = All (λ p. unsigned_abs p.amount ≤ most) ps

-- each payment is on a day from the first to the last
abbrev pub AreDue : ℤ → ℤ → List Payment → Type 0
AreDue first last ps = All (λ p. (first ≤ℤ p.slot.day) × (p.slot.day ≤ℤ last)) ps

-- no payment stands at a slot before that of an earlier one
abbrev pub AreInOrder : List Payment → Type 0
AreInOrder [] = Unit {0}
AreInOrder (p ∷ ps) = All (λ q. (p.slot ≡ q.slot) ⊎ Precedes p.slot q.slot) ps × AreInOrder ps

-- the rows are those of the payments, in order of their slots
pub record Nets (payments : List Payment) (rows : List FlowRow) : Type 0 where
  pub sorted : List Payment
  pub moved : IsPermutation payments sorted
  pub in_order : AreInOrder sorted
  pub netted : rows ≡ rows_of sorted
