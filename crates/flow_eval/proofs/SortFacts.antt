-- A sort by slots leaves payments in order of their slots.
use Rattle.std.proofs.Common.{◌≡◌, ◌⊎◌, ℕ, suc, ◌<◌, ◌≤◌, false, List, [], ◌∷◌, length, get_or, arith}
use Rattle.std.specs.Ordering.{is_lt}
use Rattle.std.specs.List.Sorted.{IsSortedByKey}
use Rattle.std.proofs.lemmas.List.Elements.{All-nil}
use Rattle.std.proofs.lemmas.List.Sorted.{ranks_by, sorted_far}
use Rattle.std.specs.Fn.{Mut, Called, ComputesKey}
use Rattle.std.proofs.lemmas.Fn.{always_returns_same}
use denote.Ref.{Bor}
use Rattle.flow_eval.specs.declared.flow_table.Slot.{Slot}
use Rattle.flow_eval.specs.declared.payments.Payment.{Payment}
use Rattle.flow_eval.specs.Netting.{AreInOrder}
use Rattle.flow_eval.specs.Tables.{Precedes}
use Rattle.flow_eval.proofs.SlotFacts.{slot_cmp, slot_cmp_total, upto_from_cmp}

-- no payment is less than an earlier one
abbrev IsFar : List Payment → Type 0
IsFar ps = (i j : ℕ) (d : Payment) → i ≤ j → j < length ps → is_lt (slot_cmp (get_or ps j d).slot (get_or ps i d).slot) ≡ false

order_from_far : (ps : List Payment) → IsFar ps → AreInOrder ps
order_from_far [] far = tt
order_from_far (p ∷ ps) far =
    (λ k d l. upto_from_cmp p.slot (get_or ps k d).slot (far 0 (suc k) d (omega arith) (omega arith)), order_from_far ps (λ i j d h l. far (suc i) (suc j) d (omega arith) (omega arith)))

-- one payment is in order, and so is none
pub order_of_one : (ps : List Payment) → length ps < 2 → AreInOrder ps
order_of_one [] h = tt
order_of_one (p ∷ []) h = (All-nil (λ q. (p.slot ≡ q.slot) ⊎ Precedes p.slot q.slot), tt)
order_of_one (p ∷ q ∷ ps) h = absurd (omega arith)

order_from_sorted : (ps : List Payment) → IsSortedByKey (λ (p : Payment). p.slot) slot_cmp ps → AreInOrder ps
order_from_sorted ps up = order_from_far ps (sorted_far (λ a b. is_lt (slot_cmp a.slot b.slot)) (ranks_by slot_cmp_total (λ (p : Payment). p.slot)) ps up)

-- from what `sort_by_key` says, where each call gives the slot of the payment
pub order_from_sort_by_key : {F : Type 0} {g : Mut F (Bor Payment × Unit {0}) Slot} {f : F} (ps : List Payment) → ((key : Payment → Slot) → ComputesKey g key f → IsSortedByKey key slot_cmp ps)
    → ((a : Bor Payment × Unit {0}) (r : Slot) (f' : F) → Called g f a r f' → (r ≡ a.0.now.slot) × (f' ≡ f)) → AreInOrder ps
order_from_sort_by_key {g = g} {f = f} ps up h = order_from_sorted ps (up (λ (p : Payment). p.slot) (always_returns_same g (λ a r. r ≡ a.0.now.slot) f h))
