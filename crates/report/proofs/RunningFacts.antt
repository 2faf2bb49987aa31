-- Payments that are netted come to what they came to before, so the sum of tables is the same whenever it is netted on the way.
use Rattle.std.proofs.Common.{◌≡◌, ◌∙◌, ◌≤◌, ◌<◌, ◌^◌, ◌+◌, ◌+ℤ◌, ◌&&◌, ℕ, ℤ, pos, neg_ℤ, Bool, true, false, if◌then◌else◌, min, max, nat_lt, int_lt, map}
use Rattle.std.proofs.Common.{List, [], ◌∷◌, ◌++◌, append_assoc, ◌≤ℤ◌, refl, ap, ap₂, sym, subst, arith, unsigned_abs}
use Rattle.std.proofs.Math.IntN.{+ℤ_assoc, neg_ℤ-neg_ℤ}
use Rattle.std.specs.Prelude.{IfOk, OnErr, Result, Ok, Err}
use Rattle.std.specs.List.{All, sum_by}
use Rattle.std.specs.List.Sorted.{IsPermutation}
use Rattle.std.specs.Ordering.{int_eq}
use Rattle.std.proofs.lemmas.Int.{ints}
use Rattle.std.proofs.lemmas.Bool.Decides.{Decides-int_eq, nat_tests}
use Rattle.std.proofs.lemmas.List.{append-nil, map-append}
use Rattle.std.proofs.lemmas.List.Elements.{All-append, All-nil, All-cons, All-head, All-tail, All-push, All-weaker, All-contains, Contains-append_left, Contains-append_right, Contains-push}
use Rattle.std.proofs.lemmas.List.Sums.{sum_by-append, sum_by-cons}
use Rattle.std.proofs.lemmas.List.Sorted.{All-permutation, sum_by-IsPermutation}
use Rattle.flow_eval.specs.Netting.{AreDue, CanBeNetted, Nets, closed, joined, row_of, rows_from, rows_of, same_slot}
use Rattle.flow_eval.specs.Tables.{FitsLine, IsDueRow, IsTable, slot_of}
use Rattle.flow_eval.specs.declared.flow_table.FlowRow.{FlowRow}
use Rattle.flow_eval.specs.declared.flow_table.FlowTable.{FlowTable}
use Rattle.flow_eval.specs.declared.flow_table.Slot.{Slot}
use Rattle.flow_eval.specs.declared.payments.Payment.{Payment}
use Rattle.flow_eval.proofs.NettingFacts.{rows_due}
use Rattle.flow_eval.proofs.NetTables.{rows_net_of, table_from_net}
use Rattle.flow_eval.proofs.PaymentFacts.{Counts}
use Rattle.flow_eval.proofs.SizeFacts.{fits_first, fits_moved, fits_next, fits_rest}
use Rattle.flow_eval.proofs.SlotFacts.{same_from_parts, same_slot_decides}
use Rattle.flow_eval.proofs.SumFacts as slots
use Rattle.report.specs.RunningSums.{AreNetOf, ComeTo, IsSumSoFar, IsSumOfFew, KeepsSum, StandsAmong, TellsSum, added_at, size_at, sum_at}
use Rattle.report.specs.SumTables.{IsSummable, IsSumOf, payment_of, payments_of, together}
use Rattle.report.specs.declared.sums.FlowSum.{FlowSum}
use Rattle.report.proofs.ListSums.{sum_append, sum_moved, zero_and}
use Rattle.report.proofs.SumFacts.{IsCounted, can_be_netted, same_size, tables_count, tables_sum, together_mutual}

-- ---- payments that come to what others do

first_stands : (p : Payment) (ps : List Payment) → StandsAmong (p ∷ ps) p
first_stands p ps = record { other = p; held = Contains-append_left (p ∷ []) ps p (Contains-push [] p); same = refl }

left_stands : (ps more : List Payment) (p : Payment) → StandsAmong ps p → StandsAmong (ps ++ more) p
left_stands ps more p h = record { other = h.other; held = Contains-append_left ps more h.other h.held; same = h.same }

right_stands : (ps more : List Payment) (p : Payment) → StandsAmong more p → StandsAmong (ps ++ more) p
right_stands ps more p h = record { other = h.other; held = Contains-append_right ps more h.other h.held; same = h.same }

each_stands : (ps : List Payment) → All (StandsAmong ps) ps
each_stands [] = All-nil (StandsAmong [])
each_stands (p ∷ ps) =
    All-cons (StandsAmong (p ∷ ps)) p ps (first_stands p ps)
    (All-weaker (StandsAmong ps) (StandsAmong (p ∷ ps)) (λ q h. right_stands (p ∷ []) ps q h) ps (each_stands ps))

stands_too : (P : Slot → Type 0) (others : List Payment) (p : Payment) → All (λ (q : Payment). P q.slot) others → StandsAmong others p → P p.slot
stands_too P others p all h = subst P (sym h.same) (All-contains (λ (q : Payment). P q.slot) others h.other all h.held)

-- what holds of the slots of the others holds of theirs
pub among_too : (P : Slot → Type 0) (others ps : List Payment) → ComeTo others ps → All (λ (q : Payment). P q.slot) others → All (λ (q : Payment). P q.slot) ps
among_too P others ps come all =
    All-weaker (StandsAmong others) (λ (q : Payment). P q.slot) (λ p h. stands_too P others p all h) ps come.among

no_more : (n : ℕ) → n ≤ n
no_more n = omega arith

pub come_itself : (ps : List Payment) → ComeTo ps ps
come_itself ps = record { same = λ asked. refl; within = λ asked. no_more (sum_by (size_at asked) ps); among = each_stands ps }

no_more_than : (a b c : ℕ) → b ≤ a → c ≤ b → c ≤ a
no_more_than a b c h k = omega arith

stands_then : (ps qs : List Payment) (p : Payment) → All (StandsAmong ps) qs → StandsAmong qs p → StandsAmong ps p
stands_then ps qs p all h =
    let k = All-contains (StandsAmong ps) qs h.other all h.held in
    record { other = k.other; held = k.held; same = h.same ∙ k.same }

pub come_then : (ps qs rs : List Payment) → ComeTo ps qs → ComeTo qs rs → ComeTo ps rs
come_then ps qs rs h k = record {
  same = λ asked. k.same asked ∙ h.same asked;
  within = λ asked. no_more_than (sum_by (size_at asked) ps) (sum_by (size_at asked) qs) (sum_by (size_at asked) rs) (h.within asked) (k.within asked);
  among = All-weaker (StandsAmong qs) (StandsAmong ps) (λ p s. stands_then ps qs p h.among s) rs k.among;
}

pub come_both : (ps qs more others : List Payment) → ComeTo ps qs → ComeTo more others → ComeTo (ps ++ more) (qs ++ others)
come_both ps qs more others h k = record {
  same = λ asked.
      sum_append qs others (added_at asked) ∙ ap₂ (λ (x y : ℤ). x +ℤ y) (h.same asked) (k.same asked) ∙ sym (sum_append ps more (added_at asked));
  within = λ asked.
      let one = sum_by-append (size_at asked) qs others in
      let all = sum_by-append (size_at asked) ps more in
      let left = h.within asked in
      let right = k.within asked in
      omega (arith, one, all, left, right);
  among = All-append (StandsAmong (ps ++ more)) qs others
      (All-weaker (StandsAmong ps) (StandsAmong (ps ++ more)) (λ p s. left_stands ps more p s) qs h.among)
      (All-weaker (StandsAmong more) (StandsAmong (ps ++ more)) (λ p s. right_stands ps more p s) others k.among);
}

come_moved : (ps qs : List Payment) → IsPermutation ps qs → ComeTo ps qs
come_moved ps qs moved = record {
  same = λ asked. sum_moved ps qs (added_at asked) moved;
  within = λ asked. let same = sum_by-IsPermutation (size_at asked) ps qs moved in omega (arith, same);
  among = All-permutation (StandsAmong ps) ps qs moved (each_stands ps);
}

-- ---- one payment joined to another

both_added : (b : Bool) (x y : ℤ) → (if b then x +ℤ y else pos 0) ≡ (if b then x else pos 0) +ℤ (if b then y else pos 0)
both_added true x y = refl
both_added false x y = refl

both_sizes : (b : Bool) (x y : ℤ) → (if b then unsigned_abs (x +ℤ y) else 0) ≤ (if b then unsigned_abs x else 0) + (if b then unsigned_abs y else 0)
both_sizes true x y = omega (arith, ints)
both_sizes false x y = omega arith

module _ (sum p : Payment) (same : sum.slot ≡ p.slot) where
  joined_added : (asked : Slot → Bool) → added_at asked (joined sum p) ≡ added_at asked sum +ℤ added_at asked p
  joined_added asked =
      both_added (asked sum.slot && nat_lt sum.slot.lower sum.slot.higher) sum.amount p.amount
      ∙ ap (λ (s : Slot). added_at asked sum +ℤ (if asked s && nat_lt s.lower s.higher then p.amount else pos 0)) same

  joined_size : (asked : Slot → Bool) → size_at asked (joined sum p) ≤ size_at asked sum + size_at asked p
  joined_size asked =
      subst (λ (s : Slot). size_at asked (joined sum p) ≤ size_at asked sum + (if asked s then unsigned_abs p.amount else 0)) same
      (both_sizes (asked sum.slot) sum.amount p.amount)

  come_joined : ComeTo (sum ∷ p ∷ []) (joined sum p ∷ [])
  come_joined = record {
    same = λ asked. ap (λ (x : ℤ). x +ℤ pos 0) (joined_added asked) ∙ +ℤ_assoc (added_at asked sum) (added_at asked p) (pos 0);
    within = λ asked.
        let one = sum_by-cons (size_at asked) (joined sum p) [] in
        let first = sum_by-cons (size_at asked) sum (p ∷ []) in
        let rest = sum_by-cons (size_at asked) p [] in
        let most = joined_size asked in
        omega (arith, one, first, rest, most);
    among = All-cons (StandsAmong (sum ∷ p ∷ [])) (joined sum p) []
        (record { other = sum; held = Contains-append_left (sum ∷ []) (p ∷ []) sum (Contains-push [] sum); same = refl })
        (All-nil (StandsAmong (sum ∷ p ∷ [])));
  }

-- ---- the row of a sum, seen as a payment again

abbrev pub IsInOrder : Slot → Type 0
IsInOrder s = s.lower ≤ s.higher

abbrev up_row : Payment → FlowRow
up_row p = record { day = p.slot.day; asset = p.slot.asset; from = p.slot.lower; to = p.slot.higher; amount = p.amount }

abbrev down_row : Payment → FlowRow
down_row p = record { day = p.slot.day; asset = p.slot.asset; from = p.slot.higher; to = p.slot.lower; amount = neg_ℤ p.amount }

slot_back : (up : Bool) (p : Payment) → IsInOrder p.slot → slot_of (if up then up_row p else down_row p) ≡ p.slot
slot_back true p h =
    let low : min p.slot.lower p.slot.higher ≡ p.slot.lower = omega arith in
    let high : max p.slot.lower p.slot.higher ≡ p.slot.higher = omega arith in
    same_from_parts (slot_of (up_row p)) p.slot refl refl low high
slot_back false p h =
    let low : min p.slot.higher p.slot.lower ≡ p.slot.lower = omega arith in
    let high : max p.slot.higher p.slot.lower ≡ p.slot.higher = omega arith in
    same_from_parts (slot_of (down_row p)) p.slot refl refl low high

forth : (b : Bool) (x : ℤ) → b ≡ true → (if b then x else neg_ℤ x) ≡ x
forth true x h = refl
forth false x h = absurd cc

back : (b : Bool) (x : ℤ) → b ≡ false → (if b then neg_ℤ x else neg_ℤ (neg_ℤ x)) ≡ x
back true x h = absurd cc
back false x h = neg_ℤ-neg_ℤ x

is_less : (m n : ℕ) → nat_lt m n ≡ true → m < n
is_less m n h = grind (arith, nat_tests)

not_less : (m n : ℕ) → m < n → nat_lt n m ≡ false
not_less m n h = grind (arith, nat_tests)

amount_back : (up : Bool) (p : Payment) → nat_lt p.slot.lower p.slot.higher ≡ true → (payment_of (if up then up_row p else down_row p)).amount ≡ p.amount
amount_back true p h = forth (nat_lt p.slot.lower p.slot.higher) p.amount h
amount_back false p h =
    back (nat_lt p.slot.higher p.slot.lower) p.amount (not_less p.slot.lower p.slot.higher (is_less p.slot.lower p.slot.higher h))

row_size : (up : Bool) (p : Payment) → unsigned_abs (if up then up_row p else down_row p).amount ≡ unsigned_abs p.amount
row_size true p = refl
row_size false p = same_size false p.amount

added_same : (b c : Bool) (x y : ℤ) → (c ≡ true → x ≡ y) → (if b && c then x else pos 0) ≡ (if b && c then y else pos 0)
added_same true true x y h = h refl
added_same true false x y h = refl
added_same false c x y h = refl

module _ (p : Payment) (order : IsInOrder p.slot) where
  abbrev again : Payment
  again = payment_of (row_of p)

  same_place : again.slot ≡ p.slot
  same_place = slot_back (int_lt (pos 0) p.amount) p order

  pub added_again : (asked : Slot → Bool) → added_at asked again ≡ added_at asked p
  added_again asked =
      ap (λ (s : Slot). if asked s && nat_lt s.lower s.higher then again.amount else pos 0) same_place
      ∙ added_same (asked p.slot) (nat_lt p.slot.lower p.slot.higher) again.amount p.amount (amount_back (int_lt (pos 0) p.amount) p)

  size_again : (asked : Slot → Bool) → size_at asked again ≡ size_at asked p
  size_again asked =
      ap (λ (s : Slot). if asked s then unsigned_abs again.amount else 0) same_place
      ∙ ap (λ (n : ℕ). if asked p.slot then n else 0)
      (same_size (nat_lt (row_of p).from (row_of p).to) (row_of p).amount ∙ row_size (int_lt (pos 0) p.amount) p)

  come_again : ComeTo (p ∷ []) (again ∷ [])
  come_again = record {
    same = λ asked. ap (λ (x : ℤ). x +ℤ pos 0) (added_again asked);
    within = λ asked.
        let one = sum_by-cons (size_at asked) again [] in
        let other = sum_by-cons (size_at asked) p [] in
        let same = size_again asked in
        omega (arith, one, other, same);
    among = All-cons (StandsAmong (p ∷ [])) again [] (record { other = p; held = Contains-push [] p; same = same_place }) (All-nil (StandsAmong (p ∷ [])));
  }

added_none : (b : Bool) (x : ℤ) → x ≡ pos 0 → (if b then x else pos 0) ≡ pos 0
added_none true x h = h
added_none false x h = refl

come_none : (p : Payment) → p.amount ≡ pos 0 → ComeTo (p ∷ []) []
come_none p h = record {
  same = λ asked. sym (zero_and (added_at asked p) (pos 0) (added_none (asked p.slot && nat_lt p.slot.lower p.slot.higher) p.amount h) refl);
  within = λ asked. omega arith;
  among = All-nil (StandsAmong (p ∷ []));
}

by_zero : (p : Payment) (none : Bool) → IsInOrder p.slot → (none ≡ true → p.amount ≡ pos 0) → ComeTo (p ∷ []) (map payment_of (if none then [] else row_of p ∷ []))
by_zero p true order h = come_none p (h refl)
by_zero p false order h = come_again p order

come_closed : (p : Payment) → IsInOrder p.slot → ComeTo (p ∷ []) (map payment_of (closed p))
come_closed p order = by_zero p (int_eq p.amount (pos 0)) order (λ t. (Decides-int_eq p.amount (pos 0)).0 t)

-- ---- the rows of payments

either : (P : List FlowRow → Type 0) (t : Bool) (one other : List FlowRow) → (t ≡ true → P one) → (t ≡ false → P other) → P (if t then one else other)
either P true one other f h = f refl
either P false one other f h = h refl

abbrev AreInOrder : List Payment → Type 0
AreInOrder ps = All (λ (p : Payment). IsInOrder p.slot) ps

come_rows : (sum : Payment) (ps : List Payment) → IsInOrder sum.slot → AreInOrder ps → ComeTo (sum ∷ ps) (map payment_of (rows_from sum ps))
come_rows sum [] first all = come_closed sum first
come_rows sum (p ∷ ps) first all =
    let here = All-head (λ (q : Payment). IsInOrder q.slot) p ps all in
    let rest = All-tail (λ (q : Payment). IsInOrder q.slot) p ps all in
    either (λ (rows : List FlowRow). ComeTo (sum ∷ p ∷ ps) (map payment_of rows)) (same_slot sum.slot p.slot) (rows_from (joined sum p) ps) (closed sum ++ rows_from p ps)
    (λ t. come_then (sum ∷ p ∷ ps) (joined sum p ∷ ps) (map payment_of (rows_from (joined sum p) ps))
    (come_both (sum ∷ p ∷ []) (joined sum p ∷ []) ps ps (come_joined sum p ((same_slot_decides sum.slot p.slot).0 t)) (come_itself ps))
    (come_rows (joined sum p) ps first rest))
    (λ t. subst (λ (qs : List Payment). ComeTo (sum ∷ p ∷ ps) qs) (sym (map-append payment_of (closed sum) (rows_from p ps)))
    (come_both (sum ∷ []) (map payment_of (closed sum)) (p ∷ ps) (map payment_of (rows_from p ps)) (come_closed sum first) (come_rows p ps here rest)))

come_rows_of : (ps : List Payment) → AreInOrder ps → ComeTo ps (map payment_of (rows_of ps))
come_rows_of [] all = come_itself []
come_rows_of (p ∷ ps) all =
    come_rows p ps (All-head (λ (q : Payment). IsInOrder q.slot) p ps all) (All-tail (λ (q : Payment). IsInOrder q.slot) p ps all)

pub come_netted : (ps : List Payment) (rows : List FlowRow) → AreInOrder ps → Nets ps rows → ComeTo ps (map payment_of rows)
come_netted ps rows all nets =
    let order = All-permutation (λ (q : Payment). IsInOrder q.slot) ps nets.sorted nets.moved all in
    subst (λ (rs : List FlowRow). ComeTo ps (map payment_of rs)) (sym nets.netted)
    (come_then ps nets.sorted (map payment_of (rows_of nets.sorted)) (come_moved ps nets.sorted nets.moved) (come_rows_of nets.sorted order))

least_first : (m n : ℕ) → min m n ≤ max m n
least_first m n = omega arith

rows_in_order : (rows : List FlowRow) → AreInOrder (map payment_of rows)
rows_in_order [] = All-nil (λ (q : Payment). IsInOrder q.slot)
rows_in_order (row ∷ rows) =
    All-cons (λ (q : Payment). IsInOrder q.slot) (payment_of row) (map payment_of rows) (least_first row.from row.to) (rows_in_order rows)

tables_in_order : (tables : List FlowTable) → AreInOrder (payments_of tables)
tables_in_order [] = All-nil (λ (q : Payment). IsInOrder q.slot)
tables_in_order (table ∷ tables) =
    All-append (λ (q : Payment). IsInOrder q.slot) (map payment_of table.rows.items) (payments_of tables) (rows_in_order table.rows.items) (tables_in_order tables)

-- ---- rows that come of payments fit a line

row_fits : (up : Bool) (p : Payment) → FitsLine p.amount → FitsLine (if up then up_row p else down_row p).amount
row_fits up p h = subst (λ (n : ℕ). n ≤ 10 ^ 36) (sym (row_size up p)) h

closed_by : (none : Bool) (row : FlowRow) → FitsLine row.amount → All (λ (r : FlowRow). FitsLine r.amount) (if none then [] else row ∷ [])
closed_by true row h = All-nil (λ (r : FlowRow). FitsLine r.amount)
closed_by false row h = All-cons (λ (r : FlowRow). FitsLine r.amount) row [] h (All-nil (λ (r : FlowRow). FitsLine r.amount))

closed_fits : (p : Payment) → FitsLine p.amount → All (λ (r : FlowRow). FitsLine r.amount) (closed p)
closed_fits p h = closed_by (int_eq p.amount (pos 0)) (row_of p) (row_fits (int_lt (pos 0) p.amount) p h)

rows_fit : (sum : Payment) (ps : List Payment) → CanBeNetted (sum ∷ ps) → All (λ (r : FlowRow). FitsLine r.amount) (rows_from sum ps)
rows_fit sum [] fits = closed_fits sum (fits_first sum [] fits)
rows_fit sum (p ∷ ps) fits =
    either (All (λ (r : FlowRow). FitsLine r.amount)) (same_slot sum.slot p.slot) (rows_from (joined sum p) ps) (closed sum ++ rows_from p ps)
    (λ same. rows_fit (joined sum p) ps (subst (λ (b : Bool). CanBeNetted ((if b then joined sum p else p) ∷ ps)) same (fits_next sum p ps fits)))
    (λ other. All-append (λ (r : FlowRow). FitsLine r.amount) (closed sum) (rows_from p ps) (closed_fits sum (fits_first sum (p ∷ ps) fits)) (rows_fit p ps (fits_rest sum (p ∷ ps) fits)))

rows_of_fit : (ps : List Payment) → CanBeNetted ps → All (λ (r : FlowRow). FitsLine r.amount) (rows_of ps)
rows_of_fit [] fits = All-nil (λ (r : FlowRow). FitsLine r.amount)
rows_of_fit (p ∷ ps) fits = rows_fit p ps fits

pub netted_fit : (ps : List Payment) (rows : List FlowRow) → CanBeNetted ps → Nets ps rows → All (λ (r : FlowRow). FitsLine r.amount) rows
netted_fit ps rows fits nets =
    subst (All (λ (r : FlowRow). FitsLine r.amount)) (sym nets.netted) (rows_of_fit nets.sorted (fits_moved ps nets.sorted nets.moved fits))

-- ---- the sum of tables

pub still_netted : (others ps : List Payment) → ComeTo others ps → CanBeNetted others → CanBeNetted ps
still_netted others ps come fits = λ s.
    no_more_than (10 ^ 36) (sum_by (size_at (same_slot s)) others) (sum_by (size_at (same_slot s)) ps) (fits s) (come.within (same_slot s))

share_added : (b c : Bool) (x : ℤ) → (b ≡ true → c ≡ true) → (if b then x else pos 0) ≡ (if b && c then x else pos 0)
share_added true true x h = refl
share_added true false x h = absurd (let no : false ≡ true = h refl in cc)
share_added false c x h = refl

module _ (s : Slot) (pair : s.lower < s.higher) where
  lower_first : (p : Payment) → same_slot s p.slot ≡ true → nat_lt p.slot.lower p.slot.higher ≡ true
  lower_first p t =
      let less : nat_lt s.lower s.higher ≡ true = grind (arith, nat_tests) in
      subst (λ (r : Slot). nat_lt r.lower r.higher ≡ true) ((same_slot_decides s p.slot).0 t) less

  sums_added : (ps : List Payment) → slots.sum_at s ps ≡ sum_at (same_slot s) ps
  sums_added [] = refl
  sums_added (p ∷ ps) =
      ap₂ (λ (x y : ℤ). x +ℤ y) (share_added (same_slot s p.slot) (nat_lt p.slot.lower p.slot.higher) p.amount (lower_first p)) (sums_added ps)

  same_sums : (others ps : List Payment) → ComeTo others ps → slots.sum_at s ps ≡ slots.sum_at s others
  same_sums others ps come = sums_added ps ∙ come.same (same_slot s) ∙ sym (sums_added others)

-- the rows of payments that come to what those of tables do are the table of the sum
pub sum_of_some : (tables : List FlowTable) (ps : List Payment) (rows : List FlowRow) → CanBeNetted ps → ComeTo (payments_of tables) ps → Nets ps rows → IsSumOf tables rows
sum_of_some tables ps rows fits come nets = λ all first last h.
    let qs = nets.sorted in
    let here = among_too (Counts first last) (payments_of tables) ps come (tables_count all first last tables h) in
    let counted = All-permutation (IsCounted first last) ps qs nets.moved here in
    let net = rows_net_of first last qs counted nets.in_order in
    let due : AreDue first last qs = All-weaker (IsCounted first last) (λ (p : Payment). (first ≤ℤ p.slot.day) × (p.slot.day ≤ℤ last)) (λ p is. (is.0, is.1)) qs counted in
    subst (λ (rs : List FlowRow). IsTable (together all) first last rs × All (IsDueRow first last) rs) (sym nets.netted) (
      table_from_net (together all) (together_mutual all first last tables h) first last net.0 (λ s. slots.sum_at s qs) _
          (λ s pair from to. slots.sum_at-permutation s ps qs nets.moved ∙ same_sums s pair (payments_of tables) ps come ∙ tables_sum all first last tables s h pair from to) net.1,
      rows_due first last qs due (fits_moved ps qs nets.moved fits),
    )

-- ---- the sum so far

payments_more : (tables : List FlowTable) (table : FlowTable) → payments_of (tables ++ table ∷ []) ≡ payments_of tables ++ map payment_of table.rows.items
payments_more [] table = append-nil (map payment_of table.rows.items)
payments_more (t ∷ tables) table =
    ap (λ (ps : List Payment). map payment_of t.rows.items ++ ps) (payments_more tables table)
    ∙ sym (append_assoc (map payment_of t.rows.items) (payments_of tables) (map payment_of table.rows.items))

pub one_more : (table : FlowTable) (tables : List FlowTable) (before after : FlowSum) → IsSummable table.rows.items
    → after.payments.items ≡ before.payments.items ++ map payment_of table.rows.items → IsSumSoFar tables before → IsSumSoFar (tables ++ table ∷ []) after
one_more table tables before after summable appended h = record {
  summable = All-push (λ (t : FlowTable). IsSummable t.rows.items) tables table h.summable summable;
  come = subst (λ (ps : List Payment). ComeTo (payments_of (tables ++ table ∷ [])) ps) (sym appended)
      (subst (λ (ps : List Payment). ComeTo ps (before.payments.items ++ map payment_of table.rows.items)) (sym (payments_more tables table))
      (come_both (payments_of tables) before.payments.items (map payment_of table.rows.items) (map payment_of table.rows.items) h.come (come_itself (map payment_of table.rows.items))));
}

sum_in_order : (tables : List FlowTable) (sum : FlowSum) → IsSumSoFar tables sum → AreInOrder sum.payments.items
sum_in_order tables sum h = among_too IsInOrder (payments_of tables) sum.payments.items h.come (tables_in_order tables)

come_told : (tables : List FlowTable) (sum : FlowSum) (rows : List FlowRow) → IsSumSoFar tables sum → Nets sum.payments.items rows → AreNetOf tables rows
come_told tables sum rows h nets =
    come_then (payments_of tables) sum.payments.items (map payment_of rows) h.come (come_netted sum.payments.items rows (sum_in_order tables sum h) nets)

pub netted_keeps : (rows : List FlowRow) (before after : FlowSum) → Nets before.payments.items rows → after.payments.items ≡ map payment_of rows
    → (tables : List FlowTable) → IsSumSoFar tables before → IsSumSoFar tables after
netted_keeps rows before after nets are tables h = record {
  summable = h.summable;
  come = subst (λ (ps : List Payment). ComeTo (payments_of tables) ps) (sym are) (come_told tables before rows h nets);
}

pub reordered_keeps : (before after : FlowSum) → IsPermutation before.payments.items after.payments.items → KeepsSum before after
reordered_keeps before after moved = λ tables h. record {
  summable = h.summable;
  come = come_then (payments_of tables) before.payments.items after.payments.items h.come (come_moved before.payments.items after.payments.items moved);
}

pub same_keeps : (before after : FlowSum) → after.payments.items ≡ before.payments.items → KeepsSum before after
same_keeps before after same = λ tables h. record {
  summable = h.summable;
  come = subst (λ (ps : List Payment). ComeTo (payments_of tables) ps) (sym same) h.come;
}

pub if_refused : {A E : Type 0} (r : Result A E) (P : Type 0) → P → OnErr r P
if_refused (Ok a) P p = tt
if_refused (Err e) P p = p

pub sum_fits : (sum : FlowSum) → IsSumOfFew sum → CanBeNetted sum.payments.items
sum_fits sum h =
    still_netted (payments_of h.tables) sum.payments.items h.is.come (can_be_netted h.tables h.few h.is.summable)

pub tells_sum : (sum : FlowSum) (rows : List FlowRow) → IsSumOfFew sum → Nets sum.payments.items rows → TellsSum sum rows
tells_sum sum rows few nets = λ tables h.
    (sum_of_some tables sum.payments.items rows (sum_fits sum few) h.come nets, come_told tables sum rows h nets)

pub told_if_ok : {E : Type 0} (sum : FlowSum) (r : Result FlowTable E) → IsSumOfFew sum → IfOk r (λ table. Nets sum.payments.items table.rows.items)
    → IfOk r (λ table. TellsSum sum table.rows.items)
told_if_ok sum (Ok table) few nets = tells_sum sum table.rows.items few nets
told_if_ok sum (Err e) few nets = tt

pub sum_if_ok : {E : Type 0} (tables : List FlowTable) (sum : FlowSum) (r : Result FlowTable E) → IsSumSoFar tables sum → IfOk r (λ table. TellsSum sum table.rows.items)
    → IfOk r (λ table. IsSumOf tables table.rows.items)
sum_if_ok tables sum (Ok table) h told = (told tables h).0
sum_if_ok tables sum (Err e) h told = tt

-- ---- what the sizes of payments add up to

at_most : (b : Bool) (n : ℕ) → (if b then n else 0) ≤ n
at_most true n = no_more n
at_most false n = omega arith

abbrev pub total : List Payment → ℕ
total ps = sum_by (λ (p : Payment). unsigned_abs p.amount) ps

sizes_within : (s : Slot) (ps : List Payment) → sum_by (size_at (same_slot s)) ps ≤ total ps
sizes_within s [] = omega arith
sizes_within s (p ∷ ps) =
    let one = sum_by-cons (size_at (same_slot s)) p ps in
    let all = sum_by-cons (λ (q : Payment). unsigned_abs q.amount) p ps in
    let here = at_most (same_slot s p.slot) (unsigned_abs p.amount) in
    let rest = sizes_within s ps in
    omega (arith, one, all, here, rest)

pub small_total : (ps : List Payment) → total ps ≤ 10 ^ 36 → CanBeNetted ps
small_total ps small = λ s. no_more_than (10 ^ 36) (total ps) (sum_by (size_at (same_slot s)) ps) small (sizes_within s ps)
