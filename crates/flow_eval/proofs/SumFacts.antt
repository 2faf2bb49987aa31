-- What payments come to at a slot.
use Rattle.std.proofs.Common.{◌≡◌, ℕ, ◌+◌, ℤ, pos, ◌+ℤ◌, ◌-ℤ◌, Bool, true, false, if◌then◌else◌, List, [], ◌∷◌, ◌++◌, refl, ap, sym, ◌∙◌, arith}
use Rattle.std.proofs.Math.IntN.{+ℤ_assoc, +ℤ_idl}
use borrow.Author.Differences.{up, down}
use Rattle.std.specs.List.{All, sum_by}
use Rattle.std.specs.List.Sorted.{IsPermutation}
use Rattle.std.proofs.lemmas.Int.{ints}
use Rattle.std.proofs.lemmas.List.Elements.{All-head, All-tail}
use Rattle.std.proofs.lemmas.List.Sums.{sum_by-cons}
use Rattle.std.proofs.lemmas.List.Sorted.{sum_by-IsPermutation}
use Rattle.flow_eval.specs.declared.flow_table.Slot.{Slot}
use Rattle.flow_eval.specs.declared.payments.Payment.{Payment}
use Rattle.flow_eval.specs.Netting.{same_slot}
use Rattle.flow_eval.proofs.SlotFacts.{same_slot_decides}

-- what a payment adds at a slot
abbrev pub share : Slot → Payment → ℤ
share s p = if same_slot s p.slot then p.amount else pos 0

abbrev pub sum_at : Slot → List Payment → ℤ
sum_at s [] = pos 0
sum_at s (p ∷ ps) = share s p +ℤ sum_at s ps

chosen : (b : Bool) (x : ℤ) → b ≡ true → (if b then x else pos 0) ≡ x
chosen true x h = refl
chosen false x h = absurd (cc)

not_chosen : (b : Bool) (x : ℤ) → (b ≡ true → ⊥) → (if b then x else pos 0) ≡ pos 0
not_chosen true x h = absurd (h refl)
not_chosen false x h = refl

pub share-same : (s : Slot) (p : Payment) → s ≡ p.slot → share s p ≡ p.amount
share-same s p h = chosen (same_slot s p.slot) p.amount ((same_slot_decides s p.slot).1 h)

pub share-other : (s : Slot) (p : Payment) → (s ≡ p.slot → ⊥) → share s p ≡ pos 0
share-other s p h = not_chosen (same_slot s p.slot) p.amount (λ (e : same_slot s p.slot ≡ true). h ((same_slot_decides s p.slot).0 e))

pub sum_at-append : (s : Slot) (ps qs : List Payment) → sum_at s (ps ++ qs) ≡ sum_at s ps +ℤ sum_at s qs
sum_at-append s [] qs = sym (+ℤ_idl (sum_at s qs))
sum_at-append s (p ∷ ps) qs = ap (λ (x : ℤ). share s p +ℤ x) (sum_at-append s ps qs) ∙ sym (+ℤ_assoc (share s p) (sum_at s ps) (sum_at s qs))

pub zero_and : (x y : ℤ) → x ≡ pos 0 → y ≡ pos 0 → x +ℤ y ≡ pos 0
zero_and x y h k = omega (arith, ints)

-- there is nothing at a slot that no payment has
pub sum_at-none : (s : Slot) (ps : List Payment) → All (λ p. s ≡ p.slot → ⊥) ps → sum_at s ps ≡ pos 0
sum_at-none s [] h = refl
sum_at-none s (p ∷ ps) h =
    zero_and (share s p) (sum_at s ps) (share-other s p (All-head (λ (p : Payment). s ≡ p.slot → ⊥) p ps h)) (sum_at-none s ps (All-tail (λ (p : Payment). s ≡ p.slot → ⊥) p ps h))

-- what a payment adds and what it takes away
abbrev rise : Slot → Payment → ℕ
rise s p = up (share s p)

abbrev fall : Slot → Payment → ℕ
fall s p = down (share s p)

parted : (x y : ℤ) (a b : ℕ) → y ≡ pos a -ℤ pos b → x +ℤ y ≡ pos (up x + a) -ℤ pos (down x + b)
parted x y a b h = omega (arith, ints)

sum_at-parts : (s : Slot) (ps : List Payment) → sum_at s ps ≡ pos (sum_by (rise s) ps) -ℤ pos (sum_by (fall s) ps)
sum_at-parts s [] = refl
sum_at-parts s (p ∷ ps) =
    parted (share s p) (sum_at s ps) (sum_by (rise s) ps) (sum_by (fall s) ps) (sum_at-parts s ps) ∙ ap (λ (n : ℕ). pos n -ℤ pos (fall s p + sum_by (fall s) ps)) (sym (sum_by-cons (rise s) p ps)) ∙ ap (λ (n : ℕ). pos (sum_by (rise s) (p ∷ ps)) -ℤ pos n) (sym (sum_by-cons (fall s) p ps))

-- the same in any order
pub sum_at-permutation : (s : Slot) (ps qs : List Payment) → IsPermutation ps qs → sum_at s qs ≡ sum_at s ps
sum_at-permutation s ps qs moved =
    sum_at-parts s qs ∙ ap (λ (n : ℕ). pos n -ℤ pos (sum_by (fall s) qs)) (sum_by-IsPermutation (rise s) ps qs moved) ∙ ap (λ (n : ℕ). pos (sum_by (rise s) ps) -ℤ pos n) (sum_by-IsPermutation (fall s) ps qs moved) ∙ sym (sum_at-parts s ps)
