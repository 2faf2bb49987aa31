-- The payments of flow tables can be netted, and come at each slot to what the tables are those of.
use Rattle.std.proofs.Common.{◌≡◌, ℕ, ◌*◌, ◌^◌, ◌≤◌, ◌<◌, ℤ, pos, neg_ℤ, ◌+ℤ◌, ◌≤ℤ◌, ◌<ℤ◌, min, max, nat_lt, Bool, true, false, if◌then◌else◌, inl, inr, ◌⊎◌, map, List, [], ◌∷◌, length, refl, ap, sym, ◌∙◌, subst, arith, unsigned_abs}
use Rattle.std.proofs.Math.IntN.{neg_ℤ-neg_ℤ}
use Rattle.std.specs.List.{All, Contains, sum_by}
use Rattle.std.proofs.lemmas.Int.{ints}
use Rattle.std.proofs.lemmas.Bool.{cases_lt}
use Rattle.std.proofs.lemmas.Bool.Decides.{nat_tests}
use Rattle.std.proofs.lemmas.List.Elements.{All-append, All-nil, All-cons, All-head, All-map, All-tail, All-weaker, All-contains, Contains-append_left, Contains-append_right, Contains-push}
use Rattle.std.proofs.lemmas.List.Sums.{sum_by-append, sum_by-cons}
use Rattle.term_model.specs.Flows.{Flow}
use Rattle.term_model.specs.LawsFlows.{reversed}
use Rattle.flow_eval.specs.Netting.{CanBeNetted, same_slot, size_at}
use Rattle.flow_eval.specs.Tables.{AreOrdered, IsPaid, IsTable, Precedes, flow_in, row_for, slot_of, IsMutual}
use Rattle.flow_eval.specs.declared.flow_table.FlowRow.{FlowRow}
use Rattle.flow_eval.specs.declared.flow_table.FlowTable.{FlowTable}
use Rattle.flow_eval.specs.declared.flow_table.Slot.{Slot}
use Rattle.flow_eval.specs.declared.payments.Payment.{Payment}
use Rattle.flow_eval.proofs.NetTables.{to_itself}
use Rattle.flow_eval.proofs.PaidFacts.{flow_at}
use Rattle.flow_eval.proofs.PaymentFacts.{Counts}
use Rattle.flow_eval.proofs.SizeFacts.{chosen}
use Rattle.flow_eval.proofs.SlotFacts.{not_itself, same_from_parts, same_slot_decides}
use Rattle.flow_eval.proofs.SumFacts.{share, share-other, share-same, sum_at, sum_at-append, zero_and}
use Rattle.report.specs.SumTables.{AreTablesOf, IsSummable, payment_of, payments_of, together}
use Rattle.flow_eval.proofs.RowFacts.{by_test, differs}

abbrev sizes : Slot → List FlowRow → ℕ
sizes s rows = sum_by (size_at s) (map payment_of rows)

abbrev IsElsewhere : Slot → FlowRow → Type 0
IsElsewhere s row = s ≡ slot_of row → ⊥

-- ---- the rows at a slot: none, or one

and_zero : (x y : ℤ) → y ≡ pos 0 → x +ℤ y ≡ x
and_zero x y h = omega (arith, ints)

zero_before : (x y : ℤ) → x ≡ pos 0 → x +ℤ y ≡ y
zero_before x y h = omega (arith, ints)

no_size : (b : Bool) (n : ℕ) → (b ≡ true → ⊥) → (if b then n else 0) ≡ 0
no_size true n h = absurd (h refl)
no_size false n h = refl

size_elsewhere : (s : Slot) (row : FlowRow) → IsElsewhere s row → size_at s (payment_of row) ≡ 0
size_elsewhere s row h = no_size (same_slot s (slot_of row)) (unsigned_abs (payment_of row).amount) (λ e. h ((same_slot_decides s (slot_of row)).0 e))

size_here : (s : Slot) (row : FlowRow) → s ≡ slot_of row → size_at s (payment_of row) ≡ unsigned_abs (payment_of row).amount
size_here s row h = chosen (same_slot s (slot_of row)) (unsigned_abs (payment_of row).amount) ((same_slot_decides s (slot_of row)).1 h)

sum_elsewhere : (s : Slot) (rows : List FlowRow) → All (IsElsewhere s) rows → sum_at s (map payment_of rows) ≡ pos 0
sum_elsewhere s [] h = refl
sum_elsewhere s (row ∷ rows) h =
    zero_and (share s (payment_of row)) (sum_at s (map payment_of rows)) (share-other s (payment_of row) (All-head (IsElsewhere s) row rows h)) (sum_elsewhere s rows (All-tail (IsElsewhere s) row rows h))

sizes_elsewhere : (s : Slot) (rows : List FlowRow) → All (IsElsewhere s) rows → sizes s rows ≡ 0
sizes_elsewhere s [] h = refl
sizes_elsewhere s (row ∷ rows) h =
    let one = sum_by-cons (size_at s) (payment_of row) (map payment_of rows) in
    let here = size_elsewhere s row (All-head (IsElsewhere s) row rows h) in
    let rest = sizes_elsewhere s rows (All-tail (IsElsewhere s) row rows h) in
    omega arith

data AtSlot (s : Slot) (rows : List FlowRow) : Type 0 where
  none : All (IsElsewhere s) rows → AtSlot s rows
  one : (row : FlowRow) → Contains rows row → s ≡ slot_of row → sum_at s (map payment_of rows) ≡ (payment_of row).amount → sizes s rows ≡ unsigned_abs (payment_of row).amount → AtSlot s rows

others_elsewhere : (s : Slot) (row : FlowRow) (rows : List FlowRow) → s ≡ slot_of row → All (λ next. Precedes (slot_of row) (slot_of next)) rows → All (IsElsewhere s) rows
others_elsewhere s row rows h before =
    All-weaker (λ next. Precedes (slot_of row) (slot_of next)) (IsElsewhere s) (λ next k e. not_itself (slot_of next) (subst (λ (t : Slot). Precedes t (slot_of next)) (sym h ∙ e) k)) rows before

at_first : (s : Slot) (row : FlowRow) (rows : List FlowRow) → s ≡ slot_of row → All (λ next. Precedes (slot_of row) (slot_of next)) rows → AtSlot s (row ∷ rows)
at_first s row rows h before =
    let rest = others_elsewhere s row rows h before in
    one row (Contains-append_left (row ∷ []) rows row (Contains-push [] row)) h
    (and_zero (share s (payment_of row)) (sum_at s (map payment_of rows)) (sum_elsewhere s rows rest) ∙ share-same s (payment_of row) h)
    (let first = sum_by-cons (size_at s) (payment_of row) (map payment_of rows) in let here = size_here s row h in let none = sizes_elsewhere s rows rest in omega arith)

at_later : (s : Slot) (row : FlowRow) (rows : List FlowRow) → IsElsewhere s row → AtSlot s rows → AtSlot s (row ∷ rows)
at_later s row rows h (none all) = none (All-cons (IsElsewhere s) row rows h all)
at_later s row rows h (one other held e sum size) =
    one other (Contains-append_right (row ∷ []) rows other held) e
    (zero_before (share s (payment_of row)) (sum_at s (map payment_of rows)) (share-other s (payment_of row) h) ∙ sum)
    (let first = sum_by-cons (size_at s) (payment_of row) (map payment_of rows) in let here = size_elsewhere s row h in omega arith)

at_slot : (s : Slot) (rows : List FlowRow) → AreOrdered rows → AtSlot s rows
at_slot s [] order = none (All-nil (IsElsewhere s))
at_slot s (row ∷ rows) order =
    by_test (AtSlot s (row ∷ rows)) (same_slot s (slot_of row)) (λ h. at_first s row rows ((same_slot_decides s (slot_of row)).0 h) order.0) (λ h. at_later s row rows (differs s (slot_of row) h) (at_slot s rows order.1))

-- ---- sizes

pub same_size : (up : Bool) (x : ℤ) → unsigned_abs (if up then x else neg_ℤ x) ≡ unsigned_abs x
same_size true x = refl
same_size false x = omega (arith, ints)

size_by : (s : Slot) (rows : List FlowRow) → All (λ row. unsigned_abs row.amount ≤ 10 ^ 27) rows → AtSlot s rows → sizes s rows ≤ 10 ^ 27
size_by s rows small (none all) = let e = sizes_elsewhere s rows all in omega arith
size_by s rows small (one row held e sum size) =
    let most = All-contains (λ row. unsigned_abs row.amount ≤ 10 ^ 27) rows row small held in
    let same = same_size (nat_lt row.from row.to) row.amount in
    omega arith

pub tables_sizes : (s : Slot) (tables : List FlowTable) → All (λ table. IsSummable table.rows.items) tables → sum_by (size_at s) (payments_of tables) ≤ length tables * 10 ^ 27
tables_sizes s [] all = omega arith
tables_sizes s (table ∷ tables) all =
    let rows = table.rows.items in
    let here = All-head (λ (t : FlowTable). IsSummable t.rows.items) table tables all in
    let first = size_by s rows here.small (at_slot s rows here.ordered) in
    let rest = tables_sizes s tables (All-tail (λ (t : FlowTable). IsSummable t.rows.items) table tables all) in
    let both = sum_by-append (size_at s) (map payment_of rows) (payments_of tables) in
    omega arith

pub can_be_netted : (tables : List FlowTable) → length tables ≤ 16_777_216 → All (λ table. IsSummable table.rows.items) tables → CanBeNetted (payments_of tables)
can_be_netted tables few all = λ s. let most = tables_sizes s tables all in omega arith

-- ---- sums

slot_up : (s : Slot) (x : ℤ) → s.lower < s.higher → s ≡ slot_of (row_for s.day (flow_at s) x)
slot_up s x h = same_from_parts s (slot_of (row_for s.day (flow_at s) x)) refl refl (omega arith) (omega arith)

slot_down : (s : Slot) (x : ℤ) → s.lower < s.higher → s ≡ slot_of (row_for s.day (reversed (flow_at s)) x)
slot_down s x h = same_from_parts s (slot_of (row_for s.day (reversed (flow_at s)) x)) refl refl (omega arith) (omega arith)

by_sign : (P : Type 0) (x : ℤ) → (pos 0 <ℤ x → P) → (pos 0 <ℤ neg_ℤ x → P) → (x ≡ pos 0 → P) → P
by_sign P x f g h = elim (signs x) [ inl p ↦ f p | inr k ↦ elim k [ inl n ↦ g n | inr z ↦ h z ] ]
  where
    signs : (x : ℤ) → (pos 0 <ℤ x) ⊎ ((pos 0 <ℤ neg_ℤ x) ⊎ (x ≡ pos 0))
    signs x = grind (arith, ints)

module _ (pays : ℤ → Flow → ℤ) (both_ways : IsMutual pays) (first last : ℤ) (rows : List FlowRow) (table : IsTable pays first last rows) where
  -- nothing is paid at a slot without a row
  none_paid : (s : Slot) → s.lower < s.higher → first ≤ℤ s.day → s.day ≤ℤ last → All (IsElsewhere s) rows → pays s.day (flow_at s) ≡ pos 0
  none_paid s pair from to all =
      by_sign (pays s.day (flow_at s) ≡ pos 0) (pays s.day (flow_at s))
      (λ some. let x = pays s.day (flow_at s) in absurd (All-contains (IsElsewhere s) rows (row_for s.day (flow_at s) x) all (table.whole s.day (flow_at s) from to some) (slot_up s x pair)))
      (λ some. let x = pays s.day (reversed (flow_at s)) in absurd (All-contains (IsElsewhere s) rows (row_for s.day (reversed (flow_at s)) x) all (table.whole s.day (reversed (flow_at s)) from to (subst (λ (y : ℤ). pos 0 <ℤ y) (sym (both_ways s.day (flow_at s))) some)) (slot_down s x pair)))
      (λ zero. zero)

  flow_same : (s : Slot) (row : FlowRow) → s ≡ slot_of row → row.from < row.to → flow_in row ≡ flow_at s
  flow_same s row e up =
      let low : row.from ≡ s.lower = (let k : min row.from row.to ≡ row.from = omega arith in sym k ∙ sym (ap (λ (t : Slot). t.lower) e)) in
      let high : row.to ≡ s.higher = (let k : max row.from row.to ≡ row.to = omega arith in sym k ∙ sym (ap (λ (t : Slot). t.higher) e)) in
      ap (λ (x : ℕ). let w : Flow = record { from = x; to = row.to; asset = row.asset } in w) low ∙ ap (λ (x : ℕ). let w : Flow = record { from = s.lower; to = x; asset = row.asset } in w) high ∙ ap (λ (x : ℕ). let w : Flow = record { from = s.lower; to = s.higher; asset = x } in w) (sym (ap (λ (t : Slot). t.asset) e))

  flow_back : (s : Slot) (row : FlowRow) → s ≡ slot_of row → row.to ≤ row.from → flow_in row ≡ reversed (flow_at s)
  flow_back s row e down =
      let high : row.from ≡ s.higher = (let k : max row.from row.to ≡ row.from = omega arith in sym k ∙ sym (ap (λ (t : Slot). t.higher) e)) in
      let low : row.to ≡ s.lower = (let k : min row.from row.to ≡ row.to = omega arith in sym k ∙ sym (ap (λ (t : Slot). t.lower) e)) in
      ap (λ (x : ℕ). let w : Flow = record { from = x; to = row.to; asset = row.asset } in w) high ∙ ap (λ (x : ℕ). let w : Flow = record { from = s.higher; to = x; asset = row.asset } in w) low ∙ ap (λ (x : ℕ). let w : Flow = record { from = s.higher; to = s.lower; asset = x } in w) (sym (ap (λ (t : Slot). t.asset) e))

  paid_by : (s : Slot) (row : FlowRow) (up : Bool) → nat_lt row.from row.to ≡ up → s ≡ slot_of row → IsPaid pays first last row → (if up then row.amount else neg_ℤ row.amount) ≡ pays s.day (flow_at s)
  paid_by s row true h e paid =
      let up : row.from < row.to = grind (arith, nat_tests) in
      paid.exact ∙ ap (λ (w : Flow). pays row.day w) (flow_same s row e up) ∙ ap (λ (t : Slot). pays t.day (flow_at s)) (sym e)
  paid_by s row false h e paid =
      let down : row.to ≤ row.from = grind (arith, nat_tests) in
      ap neg_ℤ (paid.exact ∙ ap (λ (w : Flow). pays row.day w) (flow_back s row e down) ∙ both_ways row.day (flow_at s)) ∙ neg_ℤ-neg_ℤ (pays row.day (flow_at s)) ∙ ap (λ (t : Slot). pays t.day (flow_at s)) (sym e)

  sum_by_slot : (s : Slot) → s.lower < s.higher → first ≤ℤ s.day → s.day ≤ℤ last → AtSlot s rows → sum_at s (map payment_of rows) ≡ pays s.day (flow_at s)
  sum_by_slot s pair from to (none all) = sum_elsewhere s rows all ∙ sym (none_paid s pair from to all)
  sum_by_slot s pair from to (one row held e sum size) =
      sum ∙ paid_by s row (nat_lt row.from row.to) refl e (All-contains (IsPaid pays first last) rows row table.right held)

  pub sum_is : (s : Slot) → s.lower < s.higher → first ≤ℤ s.day → s.day ≤ℤ last → sum_at s (map payment_of rows) ≡ pays s.day (flow_at s)
  sum_is s pair from to = sum_by_slot s pair from to (at_slot s rows table.ordered)

  two_parties : (row : FlowRow) → IsPaid pays first last row → min row.from row.to < max row.from row.to
  two_parties row paid =
      elim (cases_lt (min row.from row.to) (max row.from row.to)) [
        | inl l ↦ l
        | inr l ↦ absurd (to_itself pays both_ways row.day (flow_in row) (omega arith) (subst (λ (x : ℤ). pos 0 <ℤ x) paid.exact paid.some))
      ]

  pub rows_count : All (λ p. Counts first last p.slot) (map payment_of rows)
  rows_count = All-map (λ p. Counts first last p.slot) payment_of rows (All-weaker (IsPaid pays first last) (λ row. Counts first last (slot_of row)) (λ row paid. (paid.no_sooner, paid.no_later, two_parties row paid)) rows table.right)

abbrev pub IsCounted : ℤ → ℤ → Payment → Type 0
IsCounted first last p = Counts first last p.slot

pub tables_sum : (all : List (ℤ → Flow → ℤ)) (first last : ℤ) (tables : List FlowTable) (s : Slot) → AreTablesOf all first last tables → s.lower < s.higher → first ≤ℤ s.day → s.day ≤ℤ last → sum_at s (payments_of tables) ≡ together all s.day (flow_at s)
tables_sum [] first last [] s h pair from to = refl
tables_sum [] first last (table ∷ tables) s h pair from to = absurd h
tables_sum (pays ∷ others) first last [] s h pair from to = absurd h
tables_sum (pays ∷ others) first last (table ∷ tables) s h pair from to =
    sum_at-append s (map payment_of table.rows.items) (payments_of tables)
    ∙ ap (λ (x : ℤ). x +ℤ sum_at s (payments_of tables)) (sum_is pays h.0 first last table.rows.items h.1 s pair from to)
    ∙ ap (λ (x : ℤ). pays s.day (flow_at s) +ℤ x) (tables_sum others first last tables s h.2 pair from to)

pub tables_count : (all : List (ℤ → Flow → ℤ)) (first last : ℤ) (tables : List FlowTable) → AreTablesOf all first last tables → All (IsCounted first last) (payments_of tables)
tables_count [] first last [] h = All-nil (IsCounted first last)
tables_count [] first last (table ∷ tables) h = absurd h
tables_count (pays ∷ others) first last [] h = absurd h
tables_count (pays ∷ others) first last (table ∷ tables) h =
    All-append (IsCounted first last) (map payment_of table.rows.items) (payments_of tables) (rows_count pays h.0 first last table.rows.items h.1) (tables_count others first last tables h.2)

neg_sum : (a b x y : ℤ) → a ≡ neg_ℤ x → b ≡ neg_ℤ y → a +ℤ b ≡ neg_ℤ (x +ℤ y)
neg_sum a b x y h k = omega (arith, ints)

pub together_mutual : (all : List (ℤ → Flow → ℤ)) (first last : ℤ) (tables : List FlowTable) → AreTablesOf all first last tables → IsMutual (together all)
together_mutual [] first last [] h = λ day w. refl
together_mutual [] first last (table ∷ tables) h = absurd h
together_mutual (pays ∷ others) first last [] h = absurd h
together_mutual (pays ∷ others) first last (table ∷ tables) h = λ day w.
    neg_sum (pays day (reversed w)) (together others day (reversed w)) (pays day w) (together others day w) (h.0 day w) (together_mutual others first last tables h.2 day w)
