-- The rows of a flow table, each on day 0, come to what is paid over all days.
use Rattle.std.proofs.Common.{◌≡◌, ◌∙◌, ℕ, suc, ◌+◌, ◌*◌, ◌^◌, ◌≤◌, ◌<◌, ◌==◌, ℤ, pos, ◌+ℤ◌, ◌≤ℤ◌, min, max, Bool, true, false, ◌&&◌, if◌then◌else◌, map, List, [], ◌∷◌, refl, ap, sym, subst, arith, unsigned_abs}
use Rattle.std.specs.Prelude.{IfOk, Result, Ok, Err}
use Rattle.std.specs.List.{All, sum_by}
use Rattle.std.specs.Ordering.{int_eq}
use Rattle.std.proofs.lemmas.Int.{ints}
use Rattle.std.proofs.lemmas.List.Elements.{All-cons, All-head, All-nil, All-tail, All-weaker}
use Rattle.std.proofs.lemmas.List.Sums.{sum_by-append, sum_by-cons}
use Rattle.std.proofs.lemmas.List.Sorted.{All-permutation}
use Rattle.term_model.specs.Flows.{Flow}
use Rattle.term_model.specs.LawsFlows.{reversed}
use Rattle.flow_eval.specs.Netting.{CanBeNetted, Nets, same_slot, size_at}
use Rattle.flow_eval.specs.Tables.{IsDueRow, IsPaid, IsTable, IsMutual}
use Rattle.flow_eval.specs.declared.flow_table.FlowRow.{FlowRow}
use Rattle.flow_eval.specs.declared.flow_table.FlowTable.{FlowTable}
use Rattle.flow_eval.specs.declared.flow_table.Slot.{Slot}
use Rattle.flow_eval.specs.declared.payments.Payment.{Payment}
use Rattle.flow_eval.proofs.NetTables.{rows_net_of, table_from_net}
use Rattle.flow_eval.proofs.PaidFacts.{flow_at}
use Rattle.flow_eval.proofs.PaymentFacts.{Counts}
use Rattle.flow_eval.proofs.SumFacts.{share, sum_at, sum_at-permutation}
use Rattle.report.specs.SumTables.{IsSummable, payment_of}
use Rattle.report.proofs.SumFacts.{rows_count, sum_is, tables_sizes}
use Rattle.flow_eval.specs.Readiness.{last_day}
use Rattle.sample.specs.Days.{IsOverDays, over_days, sum_before, undated}
use Rattle.sample.proofs.DaySums.{on_one_day, sum_before-most, sum_before-neg, sum_before-plus, sum_before-same, sum_before-zero}

-- what payments come to at a slot, by what each amount counts for
abbrev weigh : (ℤ → ℤ) → Slot → Payment → ℤ
weigh g s p = if same_slot s p.slot then g p.amount else pos 0

abbrev weight : (ℤ → ℤ) → Slot → List Payment → ℤ
weight g s [] = pos 0
weight g s (p ∷ ps) = weigh g s p +ℤ weight g s ps

sum_is_weight : (s : Slot) (ps : List Payment) → sum_at s ps ≡ weight (λ x. x) s ps
sum_is_weight s [] = refl
sum_is_weight s (p ∷ ps) = ap (λ (x : ℤ). share s p +ℤ x) (sum_is_weight s ps)

size_weighs : (b : Bool) (n : ℕ) → pos (if b then n else 0) ≡ (if b then pos n else pos 0)
size_weighs true n = refl
size_weighs false n = refl

added : (n m k : ℕ) (x y : ℤ) → n ≡ m + k → pos m ≡ x → pos k ≡ y → pos n ≡ x +ℤ y
added n m k x y h e f = omega (arith, ints)

abbrev size : ℤ → ℤ
size x = pos (unsigned_abs x)

sizes_are_weight : (s : Slot) (ps : List Payment) → pos (sum_by (size_at s) ps) ≡ weight size s ps
sizes_are_weight s [] = refl
sizes_are_weight s (p ∷ ps) =
    added (sum_by (size_at s) (p ∷ ps)) (size_at s p) (sum_by (size_at s) ps) (weigh size s p) (weight size s ps) (sum_by-cons (size_at s) p ps) (size_weighs (same_slot s p.slot) (unsigned_abs p.amount)) (sizes_are_weight s ps)

-- ---- each row on day 0

abbrev at : Slot → ℤ → Slot
at s day = record { day = day; asset = s.asset; lower = s.lower; higher = s.higher }

abbrev IsAmong : ℕ → FlowRow → Type 0
IsAmong n row = (pos 0 ≤ℤ row.day) × (row.day ≤ℤ pos n)

own_day : (day : ℤ) → pos 0 ≤ℤ day → day ≡ pos (unsigned_abs day)
own_day day h = omega (arith, ints)

in_time : (day : ℤ) (n : ℕ) → day ≤ℤ pos n → pos 0 ≤ℤ day → unsigned_abs day < suc n
in_time day n h k = omega (arith, ints)

row_over : (g : ℤ → ℤ) (s : Slot) (n : ℕ) (row : FlowRow) → IsAmong n row → weigh g (at s (pos 0)) (undated row) ≡ sum_before (suc n) (λ i. weigh g (at s (pos i)) (payment_of row))
row_over g s n row among =
    sym (on_one_day (suc n) (unsigned_abs row.day) row.day ((s.asset == row.asset) && ((s.lower == min row.from row.to) && (s.higher == max row.from row.to))) (g (payment_of row).amount) (own_day row.day among.0) (in_time row.day n among.1 among.0))

joined : (a b x y z : ℤ) → a ≡ x → b ≡ y → z ≡ x +ℤ y → a +ℤ b ≡ z
joined a b x y z h k e = omega (arith, ints)

rows_over : (g : ℤ → ℤ) (s : Slot) (n : ℕ) (rows : List FlowRow) → All (IsAmong n) rows → weight g (at s (pos 0)) (map undated rows) ≡ sum_before (suc n) (λ i. weight g (at s (pos i)) (map payment_of rows))
rows_over g s n [] all = sym (sum_before-zero (suc n) (λ i. pos 0) (λ i lt. refl))
rows_over g s n (row ∷ rows) all =
    let one : ℕ → ℤ = λ i. weigh g (at s (pos i)) (payment_of row) in
    let others : ℕ → ℤ = λ i. weight g (at s (pos i)) (map payment_of rows) in
    joined (weigh g (at s (pos 0)) (undated row)) (weight g (at s (pos 0)) (map undated rows)) (sum_before (suc n) one) (sum_before (suc n) others) (sum_before (suc n) (λ i. one i +ℤ others i))
    (row_over g s n row (All-head (IsAmong n) row rows all)) (rows_over g s n rows (All-tail (IsAmong n) row rows all)) (sum_before-plus (suc n) one others)

-- ---- they can be netted

no_more : (b r : Bool) (n : ℕ) → (if b && r then n else 0) ≤ (if r then n else 0)
no_more true r n = omega arith
no_more false true n = omega arith
no_more false false n = omega arith

-- nothing stands on another day
size_no_more : (s : Slot) (row : FlowRow) → size_at s (undated row) ≤ size_at (at s (pos 0)) (undated row)
size_no_more s row = no_more (int_eq s.day (pos 0)) ((s.asset == row.asset) && ((s.lower == min row.from row.to) && (s.higher == max row.from row.to))) (unsigned_abs (undated row).amount)

sizes_no_more : (s : Slot) (rows : List FlowRow) → sum_by (size_at s) (map undated rows) ≤ sum_by (size_at (at s (pos 0))) (map undated rows)
sizes_no_more s [] = omega arith
sizes_no_more s (row ∷ rows) =
    let one = size_no_more s row in
    let others = sizes_no_more s rows in
    let here = sum_by-cons (size_at s) (undated row) (map undated rows) in
    let there = sum_by-cons (size_at (at s (pos 0))) (undated row) (map undated rows) in
    omega arith

-- the rows of a table are of one slot each
size_of_day : (table : FlowTable) (s : Slot) → IsSummable table.rows.items → sum_by (size_at s) (map payment_of table.rows.items) ≤ 10 ^ 27
size_of_day table s summable =
    let most = tables_sizes s (table ∷ []) (All-cons (λ (t : FlowTable). IsSummable t.rows.items) table [] summable (All-nil (λ (t : FlowTable). IsSummable t.rows.items))) in
    let whole = sum_by-append (size_at s) (map payment_of table.rows.items) [] in
    omega arith

at_most : (n : ℕ) (x : ℤ) → pos n ≡ x → n ≤ 10 ^ 27 → x ≤ℤ pos (10 ^ 27)
at_most n x h k = omega (arith, ints)

small_enough : (n m : ℕ) (x : ℤ) → n ≤ m → pos m ≡ x → x ≤ℤ pos (suc last_day * 10 ^ 27) → n ≤ 10 ^ 36
small_enough n m x h e k = omega (arith, ints)

pub can_be_netted : (table : FlowTable) → IsSummable table.rows.items → All (IsDueRow (pos 0) (pos last_day)) table.rows.items → CanBeNetted (map undated table.rows.items)
can_be_netted table summable due = λ s.
    let rows = table.rows.items in
    let among = All-weaker (IsDueRow (pos 0) (pos last_day)) (IsAmong last_day) (λ row is. (is.0, is.1)) rows due in
    let each : ℕ → ℤ = λ i. weight size (at s (pos i)) (map payment_of rows) in
    small_enough (sum_by (size_at s) (map undated rows)) (sum_by (size_at (at s (pos 0))) (map undated rows)) (sum_before (suc last_day) each) (sizes_no_more s rows)
    (sizes_are_weight (at s (pos 0)) (map undated rows) ∙ rows_over size s last_day rows among)
    (sum_before-most (suc last_day) each (λ i. at_most (sum_by (size_at (at s (pos i))) (map payment_of rows)) (each i) (sizes_are_weight (at s (pos i)) (map payment_of rows)) (size_of_day table (at s (pos i)) summable)))

-- ---- and are the table of what is paid over all days

zero_day : (day : ℤ) → pos 0 ≤ℤ day → day ≤ℤ pos 0 → day ≡ pos 0
zero_day day h k = omega (arith, ints)

no_day_before : (i : ℕ) → pos 0 ≤ℤ pos i
no_day_before i = omega (arith, ints)

no_day_after : (i n : ℕ) → i < suc n → pos i ≤ℤ pos n
no_day_after i n h = omega (arith, ints)

undated_count : (first last : ℤ) (rows : List FlowRow) → All (λ p. Counts first last p.slot) (map payment_of rows) → All (λ p. Counts (pos 0) (pos 0) p.slot) (map undated rows)
undated_count first last [] all = All-nil (λ (p : Payment). Counts (pos 0) (pos 0) p.slot)
undated_count first last (row ∷ rows) all =
    let P : Payment → Type 0 = λ p. Counts first last p.slot in
    let Q : Payment → Type 0 = λ p. Counts (pos 0) (pos 0) p.slot in
    let here : P (payment_of row) = All-head P (payment_of row) (map payment_of rows) all in
    All-cons Q (undated row) (map undated rows) (no_day_before 0, no_day_before 0, here.2) (undated_count first last rows (All-tail P (payment_of row) (map payment_of rows) all))

pub over_mutual : (pays : ℤ → Flow → ℤ) → IsMutual pays → IsMutual (over_days pays)
over_mutual pays h = λ day w. sum_before-neg (suc last_day) (λ i. pays (pos i) (reversed w)) (λ i. pays (pos i) w) (λ i. h (pos i) w)

module _ (pays : ℤ → Flow → ℤ) (both_ways : IsMutual pays) (rows : List FlowRow) (table : IsTable pays (pos 0) (pos last_day) rows) where
  among : All (IsAmong last_day) rows
  among = All-weaker (IsPaid pays (pos 0) (pos last_day)) (IsAmong last_day) (λ row is. (is.no_sooner, is.no_later)) rows table.right

  sum_over : (s : Slot) → s.lower < s.higher → pos 0 ≤ℤ s.day → s.day ≤ℤ pos 0 → sum_at s (map undated rows) ≡ over_days pays s.day (flow_at s)
  sum_over s pair from to =
      ap (λ (day : ℤ). sum_at (at s day) (map undated rows)) (zero_day s.day from to)
      ∙ sum_is_weight (at s (pos 0)) (map undated rows)
      ∙ rows_over (λ x. x) s last_day rows among
      ∙ sum_before-same (suc last_day) (λ i. weight (λ x. x) (at s (pos i)) (map payment_of rows)) (λ i. pays (pos i) (flow_at s))
      (λ i lt. sym (sum_is_weight (at s (pos i)) (map payment_of rows)) ∙ sum_is pays both_ways (pos 0) (pos last_day) rows table (at s (pos i)) pair (no_day_before i) (no_day_after i last_day lt))

  over_table : (sums : List FlowRow) → Nets (map undated rows) sums → IsTable (over_days pays) (pos 0) (pos 0) sums
  over_table sums nets =
      let ps = map undated rows in
      let qs = nets.sorted in
      let P : Payment → Type 0 = λ p. Counts (pos 0) (pos 0) p.slot in
      let counted = All-permutation P ps qs nets.moved (undated_count (pos 0) (pos last_day) rows (rows_count pays both_ways (pos 0) (pos last_day) rows table)) in
      let net = rows_net_of (pos 0) (pos 0) qs counted nets.in_order in
      subst (λ (rs : List FlowRow). IsTable (over_days pays) (pos 0) (pos 0) rs) (sym nets.netted) (
      table_from_net (over_days pays) (over_mutual pays both_ways) (pos 0) (pos 0) net.0 (λ s. sum_at s qs) _ (λ s pair from to. sum_at-permutation s ps qs nets.moved ∙ sum_over s pair from to) net.1
      )

pub over_days_answers : {E : Type 0} (rows : List FlowRow) (ps : List Payment) (r : Result FlowTable E) → ps ≡ map undated rows → IfOk r (λ sums. Nets ps sums.rows.items) → IfOk r (λ sums. IsOverDays rows sums.rows.items)
over_days_answers rows ps (Ok sums) e h = λ pays both_ways table. over_table pays both_ways rows table sums.rows.items (subst (λ (qs : List Payment). Nets qs sums.rows.items) e h)
over_days_answers rows ps (Err x) e h = tt
