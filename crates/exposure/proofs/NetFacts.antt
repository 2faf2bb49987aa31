-- The net of flow tables leaves each account where the tables do, and its amounts add up to no more.
use Rattle.std.proofs.Common.{◌≡◌, ◌∙◌, ◌≤◌, ◌<◌, ◌+ℤ◌, ◌-ℤ◌, ◌&&◌, ◌==◌, ℕ, ◌+◌, ℤ, pos, neg_ℤ, Bool, true, false, if◌then◌else◌, inl, inr}
use Rattle.std.proofs.Common.{int_eq, min, max, nat_lt, map, List, [], ◌∷◌, refl, ap, ap₂, sym, arith, unsigned_abs}
use Rattle.std.specs.List.{sum_by}
use Rattle.std.proofs.lemmas.Int.{ints}
use Rattle.std.proofs.lemmas.Bool.{cases_lt}
use Rattle.std.proofs.lemmas.Bool.Decides.{nat_tests}
use Rattle.std.proofs.lemmas.List.Sums.{sum_by-append, sum_by-cons}
use Rattle.flow_eval.specs.declared.flow_table.FlowRow.{FlowRow}
use Rattle.flow_eval.specs.declared.flow_table.FlowTable.{FlowTable}
use Rattle.flow_eval.specs.declared.flow_table.Slot.{Slot}
use Rattle.flow_eval.specs.declared.payments.Payment.{Payment}
use Rattle.report.specs.RunningSums.{added_at, size_at, sum_at}
use Rattle.report.specs.SumTables.{payment_of, payments_of}
use Rattle.report.proofs.ListSums.{sum_append}
use Rattle.report.proofs.SumFacts.{same_size}
use Rattle.exposure.specs.declared.accounts.Account.{Account}
use Rattle.exposure.specs.LawsTables.{NetsAddUpToNoMore, NetsLeavePositions}
use Rattle.exposure.specs.Positions.{brought, position, position_in, sizes_in, sizes_of}

-- ---- what a row brings to an account

-- the slots at which the party of an account is the higher one, and those at which it is the lower one
abbrev is_higher : Account → Slot → Bool
is_higher x s = (int_eq s.day x.day && (s.asset == x.asset)) && (s.higher == x.party)

abbrev is_lower : Account → Slot → Bool
is_lower x s = (int_eq s.day x.day && (s.asset == x.asset)) && (s.lower == x.party)

abbrev payment_between : FlowRow → ℕ → ℕ → ℤ → Payment
payment_between row lower higher amount =
    record { slot = record { day = row.day; asset = row.asset; lower = lower; higher = higher }; amount = amount }

same_payment : (row : FlowRow) (a b c d : ℕ) (m n : ℤ) → a ≡ c → b ≡ d → m ≡ n → payment_between row a b m ≡ payment_between row c d n
same_payment row a b c d m n e h k =
    ap (λ (x : ℕ). payment_between row x b m) e ∙ ap (λ (x : ℕ). payment_between row c x m) h ∙ ap (λ (x : ℤ). payment_between row c d x) k

brings_up : (on to from pair : Bool) (m : ℤ) → pair ≡ true
    → (if on then (if to then m else pos 0) -ℤ (if from then m else pos 0) else pos 0)
    ≡ (if (on && to) && pair then m else pos 0) -ℤ (if (on && from) && pair then m else pos 0)
brings_up on to from false m h = absurd cc
brings_up false to from true m h = refl
brings_up true true true true m h = refl
brings_up true true false true m h = refl
brings_up true false true true m h = refl
brings_up true false false true m h = refl

brings_down : (on to from pair : Bool) (m : ℤ) → pair ≡ true
    → (if on then (if to then m else pos 0) -ℤ (if from then m else pos 0) else pos 0)
    ≡ (if (on && from) && pair then neg_ℤ m else pos 0) -ℤ (if (on && to) && pair then neg_ℤ m else pos 0)
brings_down on to from false m h = absurd cc
brings_down false to from true m h = refl
brings_down true true true true m h = omega (arith, ints)
brings_down true true false true m h = omega (arith, ints)
brings_down true false true true m h = omega (arith, ints)
brings_down true false false true m h = refl

brings_none : (on to other from pair : Bool) (m n : ℤ) → to ≡ from → pair ≡ false
    → (if on then (if to then m else pos 0) -ℤ (if from then m else pos 0) else pos 0)
    ≡ (if (on && to) && pair then n else pos 0) -ℤ (if (on && other) && pair then n else pos 0)
brings_none on to other from true m n e h = absurd cc
brings_none false to other from false m n e h = refl
brings_none true true true true false m n e h = omega (arith, ints)
brings_none true true false true false m n e h = omega (arith, ints)
brings_none true false true false false m n e h = refl
brings_none true false false false false m n e h = refl
brings_none true true other false false m n e h = absurd cc
brings_none true false other true false m n e h = absurd cc

not_below : (m n : ℕ) → n ≤ m → nat_lt m n ≡ false
not_below m n h = grind (arith, nat_tests)

one_party : (m n : ℕ) → n ≡ m → max m n ≤ min m n
one_party m n h = omega arith

level : (m n : ℕ) → n ≤ m → m ≤ n → n ≡ m
level m n h k = omega arith

module _ (x : Account) where
  abbrev added : Payment → ℤ
  added p = added_at (is_higher x) p -ℤ added_at (is_lower x) p

  abbrev added_by : List Payment → ℤ
  added_by ps = sum_at (is_higher x) ps -ℤ sum_at (is_lower x) ps

  module _ (row : FlowRow) where
    abbrev on : Bool
    on = int_eq row.day x.day && (row.asset == x.asset)

    row_up : row.from < row.to → brought x row ≡ added (payment_of row)
    row_up h =
        let less : nat_lt row.from row.to ≡ true = grind (arith, nat_tests) in
        let low : min row.from row.to ≡ row.from = omega arith in
        let high : max row.from row.to ≡ row.to = omega arith in
        let same = same_payment row (min row.from row.to) (max row.from row.to) row.from row.to (payment_of row).amount row.amount low high (ap (λ (b : Bool). if b then row.amount else neg_ℤ row.amount) less) in
        brings_up on (row.to == x.party) (row.from == x.party) (nat_lt row.from row.to) row.amount less ∙ sym (ap added same)

    row_down : row.to < row.from → brought x row ≡ added (payment_of row)
    row_down h =
        let less : nat_lt row.to row.from ≡ true = grind (arith, nat_tests) in
        let not_less : nat_lt row.from row.to ≡ false = grind (arith, nat_tests) in
        let low : min row.from row.to ≡ row.to = omega arith in
        let high : max row.from row.to ≡ row.from = omega arith in
        let same = same_payment row (min row.from row.to) (max row.from row.to) row.to row.from (payment_of row).amount (neg_ℤ row.amount) low high (ap (λ (b : Bool). if b then row.amount else neg_ℤ row.amount) not_less) in
        brings_down on (row.to == x.party) (row.from == x.party) (nat_lt row.to row.from) row.amount less ∙ sym (ap added same)

    row_level : row.to ≡ row.from → brought x row ≡ added (payment_of row)
    row_level h =
        let not_less = not_below (min row.from row.to) (max row.from row.to) (one_party row.from row.to h) in
        let high : max row.from row.to ≡ row.to = omega arith in
        brings_none on (row.to == x.party) (min row.from row.to == x.party) (row.from == x.party) (nat_lt (min row.from row.to) (max row.from row.to)) row.amount (payment_of row).amount (ap (λ (n : ℕ). n == x.party) h) not_less
        ∙ ap (λ (n : ℕ). (if (on && (n == x.party)) && nat_lt (min row.from row.to) (max row.from row.to) then (payment_of row).amount else pos 0) -ℤ added_at (is_lower x) (payment_of row)) (sym high)

    row_brings : brought x row ≡ added (payment_of row)
    row_brings =
        elim (cases_lt row.from row.to) [
          | inl up ↦ row_up up
          | inr h ↦ elim (cases_lt row.to row.from) [ inl down ↦ row_down down | inr k ↦ row_level (level row.from row.to h k) ]
        ]

  parted : (a b c d : ℤ) → (a -ℤ b) +ℤ (c -ℤ d) ≡ (a +ℤ c) -ℤ (b +ℤ d)
  parted a b c d = omega (arith, ints)

  rows_bring : (rows : List FlowRow) → position_in rows x ≡ added_by (map payment_of rows)
  rows_bring [] = refl
  rows_bring (row ∷ rows) =
      ap₂ (λ (y z : ℤ). y +ℤ z) (row_brings row) (rows_bring rows)
      ∙ parted (added_at (is_higher x) (payment_of row)) (added_at (is_lower x) (payment_of row)) (sum_at (is_higher x) (map payment_of rows)) (sum_at (is_lower x) (map payment_of rows))

  tables_bring : (tables : List FlowTable) → position tables x ≡ added_by (payments_of tables)
  tables_bring [] = refl
  tables_bring (table ∷ tables) =
      let ps = map payment_of table.rows.items in
      let qs = payments_of tables in
      ap₂ (λ (y z : ℤ). y +ℤ z) (rows_bring table.rows.items) (tables_bring tables)
      ∙ parted (sum_at (is_higher x) ps) (sum_at (is_lower x) ps) (sum_at (is_higher x) qs) (sum_at (is_lower x) qs)
      ∙ sym (ap₂ (λ (y z : ℤ). y -ℤ z) (sum_append ps qs (added_at (is_higher x))) (sum_append ps qs (added_at (is_lower x))))

and_none : (n : ℤ) → n +ℤ pos 0 ≡ n
and_none n = omega (arith, ints)

pub nets_leave_positions : NetsLeavePositions
nets_leave_positions tables net x come =
    and_none (position_in net.rows.items x) ∙ rows_bring x net.rows.items
    ∙ ap₂ (λ (y z : ℤ). y -ℤ z) (come.same (is_higher x)) (come.same (is_lower x)) ∙ sym (tables_bring x tables)

-- ---- sizes

abbrev everywhere : Slot → Bool
everywhere s = true

rows_sizes : (rows : List FlowRow) → sizes_in rows ≡ sum_by (size_at everywhere) (map payment_of rows)
rows_sizes [] = refl
rows_sizes (row ∷ rows) =
    sum_by-cons (λ (r : FlowRow). unsigned_abs r.amount) row rows
    ∙ ap₂ (λ (m n : ℕ). m + n) (sym (same_size (nat_lt row.from row.to) row.amount)) (rows_sizes rows)
    ∙ sym (sum_by-cons (size_at everywhere) (payment_of row) (map payment_of rows))

tables_sizes : (tables : List FlowTable) → sizes_of tables ≡ sum_by (size_at everywhere) (payments_of tables)
tables_sizes [] = refl
tables_sizes (table ∷ tables) =
    sum_by-cons (λ (t : FlowTable). sizes_in t.rows.items) table tables
    ∙ ap₂ (λ (m n : ℕ). m + n) (rows_sizes table.rows.items) (tables_sizes tables)
    ∙ sym (sum_by-append (size_at everywhere) (map payment_of table.rows.items) (payments_of tables))

pub nets_add_up_to_no_more : NetsAddUpToNoMore
nets_add_up_to_no_more tables net come =
    let one = sum_by-cons (λ (t : FlowTable). sizes_in t.rows.items) net [] in
    let rows = rows_sizes net.rows.items in
    let all = tables_sizes tables in
    let most = come.within everywhere in
    omega (arith, one, rows, all, most)
