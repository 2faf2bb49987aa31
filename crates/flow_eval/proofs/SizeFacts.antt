-- The sizes of payments, slot by slot: netted payments keep within those of the payments.
use Rattle.std.proofs.Common.{◌≡◌, ℕ, ◌+◌, ◌-◌, ◌^◌, ◌≤◌, ◌<◌, ℤ, ◌+ℤ◌, Bool, true, false, if◌then◌else◌, List, [], ◌∷◌, drop, get_or, length, take, refl, sym, subst, arith, unsigned_abs}
use Rattle.std.specs.List.Sorted.{IsPermutation}
use Rattle.std.proofs.lemmas.Int.{ints}
use Rattle.std.proofs.lemmas.List.{drop_more, take_rest}
use Rattle.std.proofs.lemmas.List.Elements.{All-weaker}
use Rattle.std.proofs.lemmas.List.Sums.{sum_by-cons, sum_by-le}
use Rattle.std.proofs.lemmas.List.Sorted.{sum_by-IsPermutation}
use Rattle.flow_eval.specs.declared.flow_table.Slot.{Slot}
use Rattle.flow_eval.specs.declared.payments.Payment.{Payment}
use Rattle.flow_eval.specs.Netting.{AreSmall, CanBeNetted, joined, same_slot, size_at, taken_in}
use Rattle.flow_eval.proofs.SlotFacts.{same_slot_decides}

both_sizes : (b : Bool) (x y : ℤ) → (if b then unsigned_abs (x +ℤ y) else 0) ≤ (if b then unsigned_abs x else 0) + (if b then unsigned_abs y else 0)
both_sizes true x y = omega (arith, ints)
both_sizes false x y = omega arith

more : (n m : ℕ) → m ≤ n + m
more n m = omega arith

taken_by : (s : Slot) (sum p : Payment) (b : Bool) → same_slot sum.slot p.slot ≡ b → size_at s (if b then joined sum p else p) ≤ size_at s sum + size_at s p
taken_by s sum p true h =
    let same : sum.slot ≡ p.slot = (same_slot_decides sum.slot p.slot).0 h in
    subst (λ (t : Slot). size_at s (joined sum p) ≤ size_at s sum + (if same_slot s t then unsigned_abs p.amount else 0)) same (both_sizes (same_slot s sum.slot) sum.amount p.amount)
taken_by s sum p false h = more (size_at s sum) (size_at s p)

size_at-taken : (s : Slot) (sum p : Payment) → size_at s (taken_in sum p) ≤ size_at s sum + size_at s p
size_at-taken s sum p = taken_by s sum p (same_slot sum.slot p.slot) refl

-- a payment that is taken in leaves sums within the sizes
pub fits_next : (sum p : Payment) (ps : List Payment) → CanBeNetted (sum ∷ p ∷ ps) → CanBeNetted (taken_in sum p ∷ ps)
fits_next sum p ps h = λ s.
    let one = sum_by-cons (size_at s) (taken_in sum p) ps in
    let two = sum_by-cons (size_at s) sum (p ∷ ps) in
    let three = sum_by-cons (size_at s) p ps in
    let less = size_at-taken s sum p in
    let all = h s in
    omega arith

pub chosen : (b : Bool) (n : ℕ) → b ≡ true → (if b then n else 0) ≡ n
chosen true n h = refl
chosen false n h = absurd cc

size_itself : (p : Payment) → size_at p.slot p ≡ unsigned_abs p.amount
size_itself p = chosen (same_slot p.slot p.slot) (unsigned_abs p.amount) ((same_slot_decides p.slot p.slot).1 refl)

pub fits_first : (p : Payment) (ps : List Payment) → CanBeNetted (p ∷ ps) → unsigned_abs p.amount ≤ 10 ^ 36
fits_first p ps h =
    let here = size_itself p in
    let one = sum_by-cons (size_at p.slot) p ps in
    let all = h p.slot in
    omega arith

pub fits_rest : (p : Payment) (ps : List Payment) → CanBeNetted (p ∷ ps) → CanBeNetted ps
fits_rest p ps h = λ s.
    let one = sum_by-cons (size_at s) p ps in
    let all = h s in
    omega arith

pub fits_moved : (ps qs : List Payment) → IsPermutation ps qs → CanBeNetted ps → CanBeNetted qs
fits_moved ps qs moved h = λ s. subst (λ (n : ℕ). n ≤ 10 ^ 36) (sym (sum_by-IsPermutation (size_at s) ps qs moved)) (h s)

small_at : (s : Slot) (b : Bool) (n : ℕ) → n ≤ 10 ^ 30 → (if b then n else 0) ≤ 10 ^ 30
small_at s true n h = h
small_at s false n h = omega arith

-- fewer than a million small payments
pub fits_few : (ps : List Payment) → AreSmall (10 ^ 30) ps → length ps < 1_000_000 → CanBeNetted ps
fits_few ps small few = λ s.
    let all = sum_by-le (size_at s) (10 ^ 30) ps (All-weaker (λ (p : Payment). unsigned_abs p.amount ≤ 10 ^ 30) (λ (p : Payment). size_at s p ≤ 10 ^ 30) (λ p h. small_at s (same_slot s p.slot) (unsigned_abs p.amount) h) ps small) in
    omega arith

-- ---- one payment after another

-- the first, and the others
pub fits_split : (ps : List Payment) (d : Payment) → 0 < length ps → CanBeNetted ps → CanBeNetted (get_or ps 0 d ∷ take (length ps - 1) (drop 1 ps))
fits_split [] d lt h = absurd (omega arith)
fits_split (p ∷ ps) d lt h = subst (λ (xs : List Payment). CanBeNetted (p ∷ xs)) (sym (take_rest (p ∷ ps) 1)) h

pub fits_step : (ps : List Payment) (i : ℕ) (d sum : Payment) → i < length ps → CanBeNetted (sum ∷ drop i ps) → CanBeNetted (sum ∷ get_or ps i d ∷ drop (i + 1) ps)
fits_step ps i d sum lt h = subst (λ (xs : List Payment). CanBeNetted (sum ∷ xs)) (drop_more ps i d lt) h
