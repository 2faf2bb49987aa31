-- Rows of a flow table are occasions that are apart, so the law of all payments bounds what they add up to; and what comes
-- of tables stands on their days.
use Rattle.std.proofs.Common.{◌≡◌, ℕ, ◌+◌, ◌*◌, ◌^◌, ◌≤◌, ◌<◌, ℤ, pos, ◌-ℤ◌, ◌<ℤ◌, min, max, unsigned_abs, Bool, true, false, ◌&&◌, ◌==◌, int_eq, cond, if◌then◌else◌, inl, inr, ◌⊎◌, map, List, [], ◌∷◌, length, get_or, refl, ap, ap₂, sym, ◌∙◌, subst, arith}
use Rattle.std.specs.List.{All, filter}
use Rattle.std.proofs.lemmas.Int.{ints, by_lt_z}
use Rattle.std.proofs.lemmas.List.Elements.{All-nil, All-cons, All-head, All-tail, All-weaker}
use Rattle.std.proofs.lemmas.List.Sums.{sum_by-cons}
use Rattle.term_model.specs.Declarations.{Declarations}
use Rattle.term_model.specs.Terms.{Contract}
use Rattle.term_model.specs.Environments.{Environment}
use Rattle.term_model.specs.Flows.{amount_of}
use Rattle.term_model.specs.Bounds.{aligned_total}
use Rattle.interval_check.specs.Volumes.{AreApart, IsApart, Occasion, amounts_on}
use Rattle.term_model.specs.Sites.{EachDay}
use Rattle.interval_check.specs.Nodes.{IsBoundedPart}
use Rattle.interval_check.proofs.ContractSafeFacts.{contract_at_root, total_fits}
use Rattle.interval_check.proofs.RuleFacts.{bounds_hold}
use Rattle.interval_check.proofs.VolumeFacts.{all_amounts_add_up_to_total}
use Rattle.flow_eval.specs.Tables.{AreOrdered, IsPaid, Precedes, flow_in, paid_by, slot_of}
use Rattle.flow_eval.specs.declared.flow_table.FlowRow.{FlowRow}
use Rattle.flow_eval.specs.declared.flow_table.FlowTable.{FlowTable}
use Rattle.flow_eval.specs.declared.flow_table.Slot.{Slot}
use Rattle.flow_eval.proofs.SlotFacts.{not_itself, same_from_parts}
use Rattle.exposure.specs.declared.accounts.Account.{Account}
use Rattle.exposure.specs.Positions.{IsPosition, account_of, brings, brought, is_on, position, position_in, sizes_in, sizes_of}
use Rattle.exposure.specs.Settlement.{Settles, account}
use Rattle.exposure.specs.LawsTables.{AreDuring, IsDuring, ManyTablesAddUp, PositionsAreWithin, PositionsStandInTime, SettledAreWithin, SettledStandInTime, TablesAddUp}
use Rattle.exposure.proofs.FilterFacts.{on_itself}
use Rattle.report.proofs.ListSums.{sum_none}
use Rattle.exposure.proofs.TurnFacts.{counted_in, paid_within}
use Rattle.exposure.proofs.StartFacts.{position_size}

-- ---- occasions

abbrev occasion_of : ℤ → FlowRow → Occasion
occasion_of first row = record { day = row.day -ℤ first; flow = flow_in row }

same_days : (first x y : ℤ) → x -ℤ first ≡ y -ℤ first → x ≡ y
same_days first x y h = omega (arith, ints)

same_ends : (a b c d : ℕ) → ((a ≡ c) × (b ≡ d)) ⊎ ((a ≡ d) × (b ≡ c)) → (min a b ≡ min c d) × (max a b ≡ max c d)
same_ends a b c d (inl h) = (ap₂ (λ (x y : ℕ). min x y) h.0 h.1, ap₂ (λ (x y : ℕ). max x y) h.0 h.1)
same_ends a b c d (inr h) = (let low : min a b ≡ min c d = omega (arith, h.0, h.1) in low, let high : max a b ≡ max c d = omega (arith, h.0, h.1) in high)

rows_apart : (first : ℤ) (row next : FlowRow) → Precedes (slot_of row) (slot_of next) → IsApart (occasion_of first row) (occasion_of first next)
rows_apart first row next before day pair =
    let ends = same_ends row.from row.to next.from next.to pair.parties in
    let same : slot_of row ≡ slot_of next = same_from_parts (slot_of row) (slot_of next) (same_days first row.day next.day day) pair.asset ends.0 ends.1 in
    not_itself (slot_of next) (subst (λ (s : Slot). Precedes s (slot_of next)) same before)

apart_from : (first : ℤ) (row : FlowRow) (rows : List FlowRow) → All (λ next. Precedes (slot_of row) (slot_of next)) rows → All (λ x. IsApart (occasion_of first row) x) (map (occasion_of first) rows)
apart_from first row [] h = All-nil (λ x. IsApart (occasion_of first row) x)
apart_from first row (next ∷ rows) h =
    All-cons (λ x. IsApart (occasion_of first row) x) (occasion_of first next) (map (occasion_of first) rows) (rows_apart first row next (All-head (λ n. Precedes (slot_of row) (slot_of n)) next rows h)) (apart_from first row rows (All-tail (λ n. Precedes (slot_of row) (slot_of n)) next rows h))

occasions_apart : (first : ℤ) (rows : List FlowRow) → AreOrdered rows → AreApart (map (occasion_of first) rows)
occasions_apart first [] h = tt
occasions_apart first (row ∷ rows) h = (apart_from first row rows h.0, occasions_apart first rows h.1)

-- ---- sums of a table

table_sum : (d : Declarations) (c : Contract) (env : Environment) (first last : ℤ) (rows : List FlowRow) → All (λ row. IsPaid (paid_by d c env first) first last row) rows → sizes_in rows ≡ amounts_on d c env first (map (occasion_of first) rows)
table_sum d c env first last [] h = refl
table_sum d c env first last (row ∷ rows) h =
    let here : unsigned_abs row.amount ≡ unsigned_abs (amount_of d c env first (row.day -ℤ first) (flow_in row)) = ap unsigned_abs (All-head (λ r. IsPaid (paid_by d c env first) first last r) row rows h).exact in
    let rest = table_sum d c env first last rows (All-tail (λ r. IsPaid (paid_by d c env first) first last r) row rows h) in
    sum_by-cons (λ (r : FlowRow). unsigned_abs r.amount) row rows
    ∙ ap₂ (λ (x y : ℕ). x + y) here rest
    ∙ sym (sum_by-cons (λ (x : Occasion). unsigned_abs (amount_of d c env first x.day x.flow)) (occasion_of first row) (map (occasion_of first) rows))

pub tables_add_up : TablesAddUp
tables_add_up d c env first last rows limits accepted admitted table =
    let sum = table_sum d c env first last rows table.right in
    let most = (all_amounts_add_up_to_total d c env first (map (occasion_of first) rows) limits accepted.bounds admitted (occasions_apart first rows table.ordered)).1 in
    let within : sizes_in rows ≤ aligned_total d c [] = subst (λ (n : ℕ). n ≤ aligned_total d c []) (sym sum) most in
    let total = (total_fits d c [] (contract_at_root (IsBoundedPart d) EachDay d c [] (bounds_hold d c accepted.bounds))).aligned in
    (within, omega arith)

many_sizes : (tables : List FlowTable) → All (λ table. sizes_in table.rows.items ≤ 10 ^ 27) tables → sizes_of tables ≤ length tables * 10 ^ 27
many_sizes [] h = omega arith
many_sizes (table ∷ tables) h =
    let all = sum_by-cons (λ (t : FlowTable). sizes_in t.rows.items) table tables in
    let here = All-head (λ (t : FlowTable). sizes_in t.rows.items ≤ 10 ^ 27) table tables h in
    let rest = many_sizes tables (All-tail (λ (t : FlowTable). sizes_in t.rows.items ≤ 10 ^ 27) table tables h) in
    omega arith

pub many_tables_add_up : ManyTablesAddUp
many_tables_add_up tables h = many_sizes tables h

-- ---- days

abbrev IsOut : ℤ → ℤ → ℤ → Type 0
IsOut first last day = (day <ℤ first) ⊎ (last <ℤ day)

other_day : (first last day n : ℤ) (b : Bool) → IsDuring first last day → IsOut first last n → (int_eq day n && b) ≡ false
other_day first last day n b h (inl k) = off (int_eq day n) b (no h k)
  where
    off : (x y : Bool) → x ≡ false → (x && y) ≡ false
    off true y e = absurd (cc)
    off false y e = refl

    no : IsDuring first last day → n <ℤ first → int_eq day n ≡ false
    no h k = let low = h.0 in grind (arith, ints)
other_day first last day n b h (inr k) = off (int_eq day n) b (no h k)
  where
    off : (x y : Bool) → x ≡ false → (x && y) ≡ false
    off true y e = absurd (cc)
    off false y e = refl

    no : IsDuring first last day → last <ℤ n → int_eq day n ≡ false
    no h k = let high = h.1 in grind (arith, ints)

not_chosen : (b : Bool) (x : ℤ) → b ≡ false → (if b then x else pos 0) ≡ pos 0
not_chosen true x h = absurd (cc)
not_chosen false x h = refl

nothing_out : (first last : ℤ) (x : Account) (rows : List FlowRow) → All (λ row. IsDuring first last row.day) rows → IsOut first last x.day → position_in rows x ≡ pos 0
nothing_out first last x rows h out =
    sum_none rows (brought x) (All-weaker (λ row. IsDuring first last row.day) (λ row. brought x row ≡ pos 0) (λ row k. not_chosen (is_on x.day x.asset row) (brings x.party row) (other_day first last row.day x.day (row.asset == x.asset) k out)) rows h)

none_out : (first last : ℤ) (x : Account) (tables : List FlowTable) → AreDuring first last tables → IsOut first last x.day → position tables x ≡ pos 0
none_out first last x tables h out =
    sum_none tables (λ table. position_in table.rows.items x) (All-weaker (λ table. All (λ row. IsDuring first last row.day) table.rows.items) (λ table. position_in table.rows.items x ≡ pos 0) (λ table k. nothing_out first last x table.rows.items k out) tables h)

-- a day that cannot be out is in
by_day : (first last day : ℤ) → (IsOut first last day → ⊥) → IsDuring first last day
by_day first last day h =
    (by_lt_z day first (λ k. absurd (h (inl k))) (λ k. k), by_lt_z last day (λ k. absurd (h (inr k))) (λ k. k))

pub positions_stand_in_time : PositionsStandInTime
positions_stand_in_time tables rows first last during h =
    All-weaker (IsPosition tables) (λ row. IsDuring first last row.day) (λ row is. by_day first last row.day (λ out. is.some (is.exact ∙ none_out first last (account_of row) tables during out))) rows h.right

settled_row : (tables : List FlowTable) (rows : List FlowRow) (first last : ℤ) → AreDuring first last tables → Settles tables rows → (k : ℕ) (z : FlowRow) → k < length rows → IsOut first last (get_or rows k z).day → ⊥
settled_row tables rows first last during h k z l out =
    let row = get_or rows k z in
    let none = h.few row.day row.asset [] (λ p some. absurd (some (none_out first last (account row.day row.asset p) tables during out))) in
    let one = counted_in (is_on row.day row.asset) rows k z l (on_itself row) in
    omega arith

pub settled_stand_in_time : SettledStandInTime
settled_stand_in_time tables rows first last during h = λ k z l. by_day first last (get_or rows k z).day (settled_row tables rows first last during h k z l)

-- ---- amounts

tail_all : (P : FlowRow → Type 0) (b : Bool) (row : FlowRow) (rows : List FlowRow) → All P (cond b (row ∷ rows) rows) → All P rows
tail_all P true row rows h = All-tail P row rows h
tail_all P false row rows h = h

-- what holds of the rows of each day and asset, of that asset, holds of all
pub filtered_all : (P : ℕ → FlowRow → Type 0) (rows : List FlowRow) → ((n : ℤ) (a : ℕ) → All (P a) (filter (is_on n a) rows)) → All (λ row. P row.asset row) rows
filtered_all P [] h = All-nil (λ row. P row.asset row)
filtered_all P (row ∷ rows) h =
    let rest = filter (is_on row.day row.asset) rows in
    All-cons (λ r. P r.asset r) row rows (All-head (P row.asset) row rest (subst (λ (b : Bool). All (P row.asset) (cond b (row ∷ rest) rest)) (on_itself row) (h row.day row.asset)))
    (filtered_all P rows (λ n a. tail_all (P a) (is_on n a row) row (filter (is_on n a) rows) (h n a)))

pub settled_are_within : SettledAreWithin
settled_are_within tables rows h =
    filtered_all (λ a row. unsigned_abs row.amount ≤ sizes_of tables) rows (λ n a. paid_within (sizes_of tables) (λ p. position tables (account n a p)) (filter (is_on n a) rows) (h n a) (λ p. position_size tables (account n a p)))

pub positions_are_within : PositionsAreWithin
positions_are_within tables rows h =
    All-weaker (IsPosition tables) (λ row. unsigned_abs row.amount ≤ sizes_of tables) (λ row is. subst (λ (x : ℤ). unsigned_abs x ≤ sizes_of tables) (sym is.exact) (position_size tables (account_of row))) rows h.right
