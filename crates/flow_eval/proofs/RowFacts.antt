-- Payments in order of their slots are netted into rows in order, one for each slot at which they do not come to 0.
use Rattle.std.proofs.Common.{◌≡◌, ℕ, suc, ◌<◌, ℤ, pos, neg_ℤ, ◌+ℤ◌, Bool, true, false, int_lt, min, max, if◌then◌else◌, inl, inr, List, [], ◌∷◌, ◌++◌, refl, ap, sym, ◌∙◌, subst, arith}
use Rattle.std.proofs.Math.IntN.{+ℤ_assoc}
use Rattle.std.specs.List.{All, Contains}
use Rattle.std.specs.Ordering.{int_eq}
use Rattle.std.proofs.lemmas.Int.{ints}
use Rattle.std.proofs.lemmas.List.{append-nil}
use Rattle.std.proofs.lemmas.Bool.Decides.{Decides-int_eq}
use Rattle.std.proofs.lemmas.List.Elements.{All-nil, All-cons, All-head, All-tail, All-weaker, Contains-append_left, Contains-append_right, Contains-push}
use Rattle.flow_eval.specs.declared.flow_table.FlowRow.{FlowRow}
use Rattle.flow_eval.specs.declared.flow_table.Slot.{Slot}
use Rattle.flow_eval.specs.declared.payments.Payment.{Payment}
use Rattle.flow_eval.specs.Netting.{AreInOrder, closed, joined, row_of, rows_from, same_slot}
use Rattle.flow_eval.specs.Tables.{AreOrdered, Precedes, slot_of}
use Rattle.flow_eval.proofs.SlotFacts.{IsUpTo, not_itself, same_slot_decides, then_upto}
use Rattle.flow_eval.proofs.SumFacts.{share, share-other, share-same, sum_at, sum_at-none}

-- the row of what a slot comes to
abbrev pub row_at : (Slot → ℤ) → Slot → FlowRow
row_at total s = row_of (record { slot = s; amount = total s })

-- a row of a slot that counts
pub record IsNet (Counts : Slot → Type 0) (total : Slot → ℤ) (row : FlowRow) : Type 0 where
  pub slot : Slot
  pub counts : Counts slot
  pub some : total slot ≡ pos 0 → ⊥
  pub is : row ≡ row_at total slot

-- rows in order, from a slot on, of all that does not come to 0
pub record AreNet (Counts : Slot → Type 0) (from : Slot) (total : Slot → ℤ) (rows : List FlowRow) : Type 0 where
  pub ordered : AreOrdered rows
  pub after : All (λ row. IsUpTo from (slot_of row)) rows
  pub right : All (λ row. IsNet Counts total row) rows
  pub whole : (s : Slot) → (total s ≡ pos 0 → ⊥) → Contains rows (row_at total s)

-- the two parties stand in order
abbrev pub IsPair : Slot → Type 0
IsPair s = s.lower < s.higher

slot_by : (b : Bool) (p : Payment) → IsPair p.slot
    → slot_of (if b then record { day = p.slot.day; asset = p.slot.asset; from = p.slot.lower; to = p.slot.higher; amount = p.amount } else record { day = p.slot.day; asset = p.slot.asset; from = p.slot.higher; to = p.slot.lower; amount = neg_ℤ p.amount }) ≡ p.slot
slot_by true p h =
    let low : min p.slot.lower p.slot.higher ≡ p.slot.lower = omega arith in
    let high : max p.slot.lower p.slot.higher ≡ p.slot.higher = omega arith in
    ap (λ (x : ℕ). let s : Slot = record { day = p.slot.day; asset = p.slot.asset; lower = x; higher = max p.slot.lower p.slot.higher } in s) low ∙ ap (λ (x : ℕ). let s : Slot = record { day = p.slot.day; asset = p.slot.asset; lower = p.slot.lower; higher = x } in s) high
slot_by false p h =
    let low : min p.slot.higher p.slot.lower ≡ p.slot.lower = omega arith in
    let high : max p.slot.higher p.slot.lower ≡ p.slot.higher = omega arith in
    ap (λ (x : ℕ). let s : Slot = record { day = p.slot.day; asset = p.slot.asset; lower = x; higher = max p.slot.higher p.slot.lower } in s) low ∙ ap (λ (x : ℕ). let s : Slot = record { day = p.slot.day; asset = p.slot.asset; lower = p.slot.lower; higher = x } in s) high

-- a row stands at the slot of its payment
pub slot_of-row_of : (p : Payment) → IsPair p.slot → slot_of (row_of p) ≡ p.slot
slot_of-row_of p h = slot_by (int_lt (pos 0) p.amount) p h

-- the same by another name of what each slot comes to
pub net_same : (Counts : Slot → Type 0) (from : Slot) (one other : Slot → ℤ) (rows : List FlowRow) → ((s : Slot) → one s ≡ other s) → AreNet Counts from one rows → AreNet Counts from other rows
net_same Counts from one other rows e h = record {
  ordered = h.ordered;
  after = h.after;
  right = All-weaker (IsNet Counts one) (IsNet Counts other) (λ row is. record {
    slot = is.slot;
    counts = is.counts;
    some = λ (z : other is.slot ≡ pos 0). is.some (e is.slot ∙ z);
    is = is.is ∙ ap (λ (x : ℤ). row_of (record { slot = is.slot; amount = x })) (e is.slot);
  }) rows h.right;
  whole = λ s z. subst (λ (x : ℤ). Contains rows (row_of (record { slot = s; amount = x }))) (e s) (h.whole s (λ (y : one s ≡ pos 0). z (sym (e s) ∙ y)));
}

-- no rows, of nothing
pub net_none : (Counts : Slot → Type 0) (from : Slot) → AreNet Counts from (λ _. pos 0) []
net_none Counts from = record {
  ordered = tt;
  after = All-nil (λ row. IsUpTo from (slot_of row));
  right = All-nil (IsNet Counts (λ _. pos 0));
  whole = λ s z. absurd (z refl);
}

no_share : (b : Bool) (x : ℤ) → x ≡ pos 0 → (if b then x else pos 0) ≡ pos 0
no_share true x h = h
no_share false x h = refl

nothing_more : (x y : ℤ) → x ≡ pos 0 → y ≡ x +ℤ y
nothing_more x y h = omega (arith, ints)

no_more : (x y : ℤ) → y ≡ pos 0 → x +ℤ y ≡ x
no_more x y h = omega (arith, ints)

-- a sum that is 0 has no row
close_none : (Counts : Slot → Type 0) (sum : Payment) (next : Slot) (total : Slot → ℤ) (rows : List FlowRow) → Precedes sum.slot next → AreNet Counts next total rows → sum.amount ≡ pos 0
    → AreNet Counts sum.slot (λ s. share s sum +ℤ total s) rows
close_none Counts sum next total rows before h zero =
    net_same Counts sum.slot total (λ s. share s sum +ℤ total s) rows (λ s. nothing_more (share s sum) (total s) (no_share (same_slot s sum.slot) sum.amount zero)) (record {
      ordered = h.ordered;
      after = All-weaker (λ row. IsUpTo next (slot_of row)) (λ row. IsUpTo sum.slot (slot_of row)) (λ row k. inr (then_upto sum.slot next (slot_of row) before k)) rows h.after;
      right = h.right;
      whole = h.whole;
    })

pub by_test : (P : Type 0) (t : Bool) → (t ≡ true → P) → (t ≡ false → P) → P
by_test P true f g = f refl
by_test P false f g = g refl

pub differs : (a b : Slot) → same_slot a b ≡ false → a ≡ b → ⊥
differs a b h e =
    let same : same_slot a b ≡ true = (same_slot_decides a b).1 e in
    cc

-- at one slot, or at two
by_slot : (P : Type 0) (a b : Slot) → (a ≡ b → P) → ((a ≡ b → ⊥) → P) → P
by_slot P a b f g = by_test P (same_slot a b) (λ h. f ((same_slot_decides a b).0 h)) (λ h. g (differs a b h))

first_held : (row : FlowRow) (rows : List FlowRow) → Contains (row ∷ rows) row
first_held row rows = Contains-append_left (row ∷ []) rows row (Contains-push [] row)

-- a later row, seen with the first sum
still_net : (Counts : Slot → Type 0) (sum : Payment) (total : Slot → ℤ) → total sum.slot ≡ pos 0 → (row : FlowRow) → IsNet Counts total row → IsNet Counts (λ s. share s sum +ℤ total s) row
still_net Counts sum total none row is =
    let apart : is.slot ≡ sum.slot → ⊥ = λ e. is.some (ap total e ∙ none) in
    let same : total is.slot ≡ share is.slot sum +ℤ total is.slot = nothing_more (share is.slot sum) (total is.slot) (share-other is.slot sum apart) in
    record {
      slot = is.slot;
      counts = is.counts;
      some = λ (z : share is.slot sum +ℤ total is.slot ≡ pos 0). is.some (same ∙ z);
      is = is.is ∙ ap (λ (x : ℤ). row_of (record { slot = is.slot; amount = x })) same;
    }

held_at : (sum : Payment) (total : Slot → ℤ) (rows : List FlowRow) (s : Slot) → s ≡ sum.slot → total sum.slot ≡ sum.amount → Contains (row_of sum ∷ rows) (row_at total s)
held_at sum total rows s e amount =
    subst (λ (row : FlowRow). Contains (row_of sum ∷ rows) row) (sym (ap (λ (t : Slot). row_of (record { slot = t; amount = total t })) e ∙ ap (λ (x : ℤ). row_of (record { slot = sum.slot; amount = x })) amount)) (first_held (row_of sum) rows)

held_later : (first : FlowRow) (one other : Slot → ℤ) (rows : List FlowRow) (s : Slot) → one s ≡ other s → ((one s ≡ pos 0 → ⊥) → Contains rows (row_at one s)) → (other s ≡ pos 0 → ⊥) → Contains (first ∷ rows) (row_at other s)
held_later first one other rows s e h some =
    Contains-append_right (first ∷ []) rows (row_at other s) (subst (λ (x : ℤ). Contains rows (row_of (record { slot = s; amount = x }))) e (h (λ (z : one s ≡ pos 0). some (sym e ∙ z))))

-- a sum that is not 0 has its row first
close_some : (Counts : Slot → Type 0) (sum : Payment) (next : Slot) (total : Slot → ℤ) (rows : List FlowRow) → Counts sum.slot → IsPair sum.slot → Precedes sum.slot next → total sum.slot ≡ pos 0 → AreNet Counts next total rows
    → (sum.amount ≡ pos 0 → ⊥) → AreNet Counts sum.slot (λ s. share s sum +ℤ total s) (row_of sum ∷ rows)
close_some Counts sum next total rows counts pair before none h some =
    let at : slot_of (row_of sum) ≡ sum.slot = slot_of-row_of sum pair in
    let amount : share sum.slot sum +ℤ total sum.slot ≡ sum.amount = no_more (share sum.slot sum) (total sum.slot) none ∙ share-same sum.slot sum refl in
    record {
      ordered = (All-weaker (λ row. IsUpTo next (slot_of row)) (λ row. Precedes (slot_of (row_of sum)) (slot_of row)) (λ row k. subst (λ (s : Slot). Precedes s (slot_of row)) (sym at) (then_upto sum.slot next (slot_of row) before k)) rows h.after, h.ordered);
      after = All-cons (λ row. IsUpTo sum.slot (slot_of row)) (row_of sum) rows (inl (sym at)) (All-weaker (λ row. IsUpTo next (slot_of row)) (λ row. IsUpTo sum.slot (slot_of row)) (λ row k. inr (then_upto sum.slot next (slot_of row) before k)) rows h.after);
      right = All-cons (IsNet Counts (λ s. share s sum +ℤ total s)) (row_of sum) rows (record {
        slot = sum.slot;
        counts = counts;
        some = λ (z : share sum.slot sum +ℤ total sum.slot ≡ pos 0). some (sym amount ∙ z);
        is = ap (λ (x : ℤ). row_of (record { slot = sum.slot; amount = x })) (sym amount);
      }) (All-weaker (IsNet Counts total) (IsNet Counts (λ s. share s sum +ℤ total s)) (still_net Counts sum total none) rows h.right);
      whole = λ s z. by_slot (Contains (row_of sum ∷ rows) (row_at (λ t. share t sum +ℤ total t) s)) s sum.slot (λ e. held_at sum (λ t. share t sum +ℤ total t) rows s e amount) (λ e. held_later (row_of sum) total (λ t. share t sum +ℤ total t) rows s (nothing_more (share s sum) (total s) (share-other s sum e)) (h.whole s) z);
    }

chosen_rows : (P : List FlowRow → Type 0) (t : Bool) (row : FlowRow) (rows : List FlowRow) → (t ≡ true → P rows) → (t ≡ false → P (row ∷ rows)) → P ((if t then [] else row ∷ []) ++ rows)
chosen_rows P true row rows f g = f refl
chosen_rows P false row rows f g = g refl

not_zero : (x : ℤ) → int_eq x (pos 0) ≡ false → x ≡ pos 0 → ⊥
not_zero x h e =
    let zero : int_eq x (pos 0) ≡ true = (Decides-int_eq x (pos 0)).1 e in
    cc

-- the row of a sum, if it has one, and the later rows
closed_net : (Counts : Slot → Type 0) (sum : Payment) (next : Slot) (total : Slot → ℤ) (rows : List FlowRow) → Counts sum.slot → IsPair sum.slot → Precedes sum.slot next → total sum.slot ≡ pos 0 → AreNet Counts next total rows
    → AreNet Counts sum.slot (λ s. share s sum +ℤ total s) (closed sum ++ rows)
closed_net Counts sum next total rows counts pair before none h =
    chosen_rows (AreNet Counts sum.slot (λ s. share s sum +ℤ total s)) (int_eq sum.amount (pos 0)) (row_of sum) rows (λ t. close_none Counts sum next total rows before h ((Decides-int_eq sum.amount (pos 0)).0 t))
    (λ t. close_some Counts sum next total rows counts pair before none h (not_zero sum.amount t))

either : (P : List FlowRow → Type 0) (t : Bool) (one other : List FlowRow) → (t ≡ true → P one) → (t ≡ false → P other) → P (if t then one else other)
either P true one other f g = f refl
either P false one other f g = g refl

share_of_sum : (t : Bool) (x y : ℤ) → (if t then x +ℤ y else pos 0) ≡ (if t then x else pos 0) +ℤ (if t then y else pos 0)
share_of_sum true x y = refl
share_of_sum false x y = refl

share-joined : (s : Slot) (sum p : Payment) (rest : ℤ) → sum.slot ≡ p.slot → share s (joined sum p) +ℤ rest ≡ share s sum +ℤ (share s p +ℤ rest)
share-joined s sum p rest e =
    ap (λ (x : ℤ). x +ℤ rest) (share_of_sum (same_slot s sum.slot) sum.amount p.amount ∙ ap (λ (t : Slot). share s sum +ℤ (if same_slot s t then p.amount else pos 0)) e) ∙ +ℤ_assoc (share s sum) (share s p) rest

apart : (a b : Slot) → Precedes a b → a ≡ b → ⊥
apart a b h e = not_itself b (subst (λ (s : Slot). Precedes s b) e h)

before_from : (a b : Slot) → IsUpTo a b → same_slot a b ≡ false → Precedes a b
before_from a b (inl e) h = absurd (differs a b h e)
before_from a b (inr k) h = k

after_last : (s : Slot) → Precedes s (record { day = s.day; asset = s.asset; lower = s.lower; higher = suc s.higher })
after_last s = inr (refl, inr (refl, inr (refl, omega arith)))

pub rows_net : (Counts : Slot → Type 0) → ((s : Slot) → Counts s → IsPair s) → (sum : Payment) (ps : List Payment) → Counts sum.slot → All (λ p. Counts p.slot) ps → All (λ p. IsUpTo sum.slot p.slot) ps → AreInOrder ps
    → AreNet Counts sum.slot (λ s. sum_at s (sum ∷ ps)) (rows_from sum ps)
rows_net Counts pair sum [] counts all upto order =
    subst (AreNet Counts sum.slot (λ s. sum_at s (sum ∷ []))) (append-nil (closed sum))
    (closed_net Counts sum (record { day = sum.slot.day; asset = sum.slot.asset; lower = sum.slot.lower; higher = suc sum.slot.higher }) (λ _. pos 0) [] counts (pair sum.slot counts) (after_last sum.slot) refl (net_none Counts _))
rows_net Counts pair sum (p ∷ ps) counts all upto order =
    let here : Counts p.slot = All-head (λ (q : Payment). Counts q.slot) p ps all in
    let others : All (λ (q : Payment). Counts q.slot) ps = All-tail (λ (q : Payment). Counts q.slot) p ps all in
    let first : IsUpTo sum.slot p.slot = All-head (λ (q : Payment). IsUpTo sum.slot q.slot) p ps upto in
    let rest : All (λ (q : Payment). IsUpTo sum.slot q.slot) ps = All-tail (λ (q : Payment). IsUpTo sum.slot q.slot) p ps upto in
    either (AreNet Counts sum.slot (λ s. sum_at s (sum ∷ p ∷ ps))) (same_slot sum.slot p.slot) (rows_from (joined sum p) ps) (closed sum ++ rows_from p ps)
    (λ t. net_same Counts sum.slot (λ s. sum_at s (joined sum p ∷ ps)) (λ s. sum_at s (sum ∷ p ∷ ps)) (rows_from (joined sum p) ps) (λ s. share-joined s sum p (sum_at s ps) ((same_slot_decides sum.slot p.slot).0 t)) (rows_net Counts pair (joined sum p) ps counts others rest order.1))
    (λ t. let before = before_from sum.slot p.slot first t in closed_net Counts sum p.slot (λ s. sum_at s (p ∷ ps)) (rows_from p ps) counts (pair sum.slot counts) before
    (sum_at-none sum.slot (p ∷ ps) (All-cons (λ (q : Payment). sum.slot ≡ q.slot → ⊥) p ps (apart sum.slot p.slot before) (All-weaker (λ (q : Payment). IsUpTo p.slot q.slot) (λ (q : Payment). sum.slot ≡ q.slot → ⊥) (λ q k. apart sum.slot q.slot (then_upto sum.slot p.slot q.slot before k)) ps order.0)))
    (rows_net Counts pair p ps here others order.0 order.1))
