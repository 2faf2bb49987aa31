-- A test that computes whether payments settle, in turn, what the first few parties come to: for worked rows.
use Rattle.std.proofs.Common.{◌≡◌, ℕ, zero, suc, ◌+◌, ◌<◌, ◌<ℤ◌, ◌≤ℤ◌, ℤ, pos, neg_ℤ, ◌-ℤ◌, Bool, true, false, ◌&&◌, ◌==◌, if◌then◌else◌, not, int_lt, int_eq, nat_lt, List, [], ◌∷◌, length, refl, ap, sym, ◌∙◌, subst, arith}
use Rattle.std.specs.Int.{int_min}
use Rattle.std.specs.List.{All, filter}
use Rattle.std.proofs.lemmas.Int.{ints}
use Rattle.std.proofs.lemmas.Bool.{and_parts}
use Rattle.std.proofs.lemmas.Bool.Decides.{nat_tests}
use Rattle.std.proofs.lemmas.List.Elements.{All-nil, All-cons}
use Rattle.flow_eval.specs.declared.flow_table.FlowRow.{FlowRow}
use Rattle.exposure.specs.Positions.{brings, brought, is_on, position_in}
use Rattle.exposure.specs.Settlement.{IsFirstOwed, IsFirstOwing, PayInTurn, account, due_after}
use Rattle.report.proofs.ListSums.{sum_none}
use Rattle.exposure.proofs.TurnFacts.{not_same, other_part}

-- what is due to the parties, in their order, and nothing to all others
abbrev pub due_in : List ℤ → ℕ → ℤ
due_in [] p = pos 0
due_in (x ∷ xs) zero = x
due_in (x ∷ xs) (suc p) = due_in xs p

abbrev owes_first : List ℤ → ℕ → Bool
owes_first [] p = false
owes_first (x ∷ xs) zero = int_lt x (pos 0)
owes_first (x ∷ xs) (suc p) = not (int_lt x (pos 0)) && owes_first xs p

abbrev owed_first : List ℤ → ℕ → Bool
owed_first [] p = false
owed_first (x ∷ xs) zero = int_lt (pos 0) x
owed_first (x ∷ xs) (suc p) = not (int_lt (pos 0) x) && owed_first xs p

abbrev pays_lesser : List ℤ → FlowRow → Bool
pays_lesser xs row = int_eq row.amount (int_min (neg_ℤ (due_in xs row.from)) (due_in xs row.to))

-- what is due once a row is paid, of the parties from k on
abbrev after : ℕ → FlowRow → List ℤ → List ℤ
after k row [] = []
after k row (x ∷ xs) = (x -ℤ brings k row) ∷ after (suc k) row xs

abbrev nothing_due : List ℤ → Bool
nothing_due [] = true
nothing_due (x ∷ xs) = int_eq x (pos 0) && nothing_due xs

abbrev pub pays_in_turn : List ℤ → List FlowRow → Bool
pays_in_turn xs [] = nothing_due xs
pays_in_turn xs (row ∷ rows) =
    (owes_first xs row.from && (owed_first xs row.to && pays_lesser xs row)) && pays_in_turn (after 0 row xs) rows

-- ---- what the test tells

below_zero : (x : ℤ) → int_lt x (pos 0) ≡ true → x <ℤ pos 0
below_zero x h = grind (arith, ints)

above_zero : (x : ℤ) → int_lt (pos 0) x ≡ true → pos 0 <ℤ x
above_zero x h = grind (arith, ints)

not_below : (x : ℤ) → not (int_lt x (pos 0)) ≡ true → pos 0 ≤ℤ x
not_below x h = grind (arith, ints)

not_above : (x : ℤ) → not (int_lt (pos 0) x) ≡ true → x ≤ℤ pos 0
not_above x h = grind (arith, ints)

same_int : (x y : ℤ) → int_eq x y ≡ true → x ≡ y
same_int x y h = grind (arith, ints)

nothing_by_test : (xs : List ℤ) (p : ℕ) → nothing_due xs ≡ true → due_in xs p ≡ pos 0
nothing_by_test [] p h = refl
nothing_by_test (x ∷ xs) zero h = same_int x (pos 0) (and_parts (int_eq x (pos 0)) (nothing_due xs) h).0
nothing_by_test (x ∷ xs) (suc p) h = nothing_by_test xs p (and_parts (int_eq x (pos 0)) (nothing_due xs) h).1

first_owing : (xs : List ℤ) (p : ℕ) → owes_first xs p ≡ true → IsFirstOwing (due_in xs) p
first_owing [] p h = absurd (cc)
first_owing (x ∷ xs) zero h = record { owes = below_zero x h; others = λ q l. absurd (omega arith) }
first_owing (x ∷ xs) (suc p) h =
    let parts = and_parts (not (int_lt x (pos 0))) (owes_first xs p) h in
    let rest = first_owing xs p parts.1 in
    record { owes = rest.owes; others = others (not_below x parts.0) rest.others }
  where
    others : pos 0 ≤ℤ x → ((q : ℕ) → q < p → pos 0 ≤ℤ due_in xs q) → (q : ℕ) → q < suc p → pos 0 ≤ℤ due_in (x ∷ xs) q
    others here rest zero l = here
    others here rest (suc q) l = rest q (omega arith)

first_owed : (xs : List ℤ) (p : ℕ) → owed_first xs p ≡ true → IsFirstOwed (due_in xs) p
first_owed [] p h = absurd (cc)
first_owed (x ∷ xs) zero h = record { owed = above_zero x h; others = λ q l. absurd (omega arith) }
first_owed (x ∷ xs) (suc p) h =
    let parts = and_parts (not (int_lt (pos 0) x)) (owed_first xs p) h in
    let rest = first_owed xs p parts.1 in
    record { owed = rest.owed; others = others (not_above x parts.0) rest.others }
  where
    others : x ≤ℤ pos 0 → ((q : ℕ) → q < p → due_in xs q ≤ℤ pos 0) → (q : ℕ) → q < suc p → due_in (x ∷ xs) q ≤ℤ pos 0
    others here rest zero l = here
    others here rest (suc q) l = rest q (omega arith)

owes_within : (xs : List ℤ) (p : ℕ) → owes_first xs p ≡ true → p < length xs
owes_within [] p h = absurd (cc)
owes_within (x ∷ xs) zero h = omega arith
owes_within (x ∷ xs) (suc p) h = let rest = owes_within xs p (and_parts (not (int_lt x (pos 0))) (owes_first xs p) h).1 in omega arith

owed_within : (xs : List ℤ) (p : ℕ) → owed_first xs p ≡ true → p < length xs
owed_within [] p h = absurd (cc)
owed_within (x ∷ xs) zero h = omega arith
owed_within (x ∷ xs) (suc p) h = let rest = owed_within xs p (and_parts (not (int_lt (pos 0) x)) (owed_first xs p) h).1 in omega arith

-- a row brings nothing to a party behind both of its own
brings_none : (row : FlowRow) (p : ℕ) (x : ℤ) → row.from < p → row.to < p → x -ℤ brings p row ≡ x
brings_none row p x l m =
    other_part (row.to == p) (row.from == p) row.amount x (not_same row.to p (λ e. omega (arith, e))) (not_same row.from p (λ e. omega (arith, e)))

after_by : (k : ℕ) (row : FlowRow) (xs : List ℤ) (p : ℕ) → row.from < k + length xs → row.to < k + length xs → due_in (after k row xs) p ≡ due_in xs p -ℤ brings (k + p) row
after_by k row [] p l m = sym (brings_none row (k + p) (pos 0) (omega arith) (omega arith))
after_by k row (x ∷ xs) zero l m =
    let same : k ≡ k + 0 = omega arith in
    ap (λ (n : ℕ). x -ℤ brings n row) same
after_by k row (x ∷ xs) (suc p) l m =
    let same : suc k + p ≡ k + suc p = omega arith in
    after_by (suc k) row xs p (omega arith) (omega arith) ∙ ap (λ (n : ℕ). due_in xs p -ℤ brings n row) same

after_row : (xs : List ℤ) (row : FlowRow) (p : ℕ) → row.from < length xs → row.to < length xs → due_in (after 0 row xs) p ≡ due_after (due_in xs) row p
after_row xs row p l m =
    let same : 0 + p ≡ p = omega arith in
    after_by 0 row xs p (omega arith) (omega arith) ∙ ap (λ (n : ℕ). due_in xs p -ℤ brings n row) same

pub in_turn_by_test : (xs : List ℤ) (rows : List FlowRow) → pays_in_turn xs rows ≡ true → PayInTurn (due_in xs) rows
in_turn_by_test xs [] h = λ p. nothing_by_test xs p h
in_turn_by_test xs (row ∷ rows) h =
    let all = and_parts (owes_first xs row.from && (owed_first xs row.to && pays_lesser xs row)) (pays_in_turn (after 0 row xs) rows) h in
    let here = and_parts (owes_first xs row.from) (owed_first xs row.to && pays_lesser xs row) all.0 in
    let payee = and_parts (owed_first xs row.to) (pays_lesser xs row) here.1 in
    let l = owes_within xs row.from here.0 in
    let m = owed_within xs row.to payee.0 in (
      record {
        payer = first_owing xs row.from here.0;
        payee = first_owed xs row.to payee.0;
        lesser = same_int row.amount (int_min (neg_ℤ (due_in xs row.from)) (due_in xs row.to)) payee.1;
      },
      subst (λ (due : ℕ → ℤ). PayInTurn due rows) (λ i p. after_row xs row p l m i) (in_turn_by_test (after 0 row xs) rows all.1),
    )

-- ---- what parties come to, in their order

abbrev dues : List FlowRow → ℤ → ℕ → ℕ → ℕ → List ℤ
dues rows n a k zero = []
dues rows n a k (suc m) = position_in rows (account n a k) ∷ dues rows n a (suc k) m

abbrev are_among : ℕ → List FlowRow → Bool
are_among m [] = true
are_among m (row ∷ rows) = (nat_lt row.from m && nat_lt row.to m) && are_among m rows

pub nothing_chosen : (b : Bool) (x : ℤ) → x ≡ pos 0 → (if b then x else pos 0) ≡ pos 0
nothing_chosen true x h = h
nothing_chosen false x h = refl

from_zero : (x y : ℤ) → x -ℤ y ≡ x → y ≡ pos 0
from_zero x y h = omega (arith, ints)

none_brought : (rows : List FlowRow) (n : ℤ) (a m p : ℕ) → are_among m rows ≡ true → m < suc p → All (λ row. brought (account n a p) row ≡ pos 0) rows
none_brought [] n a m p h l = All-nil (λ row. brought (account n a p) row ≡ pos 0)
none_brought (row ∷ rows) n a m p h l =
    let all = and_parts (nat_lt row.from m && nat_lt row.to m) (are_among m rows) h in
    let ends = and_parts (nat_lt row.from m) (nat_lt row.to m) all.0 in
    All-cons (λ r. brought (account n a p) r ≡ pos 0) row rows
    (nothing_chosen (is_on n a row) (brings p row) (from_zero (pos 0) (brings p row) (brings_none row p (pos 0) (before row.from m p ends.0 l) (before row.to m p ends.1 l))))
    (none_brought rows n a m p all.1 l)
  where
    before : (q m p : ℕ) → nat_lt q m ≡ true → m < suc p → q < p
    before q m p h l = grind (arith, nat_tests)

dues_are : (rows : List FlowRow) (n : ℤ) (a k m p : ℕ) → are_among (k + m) rows ≡ true → due_in (dues rows n a k m) p ≡ position_in rows (account n a (k + p))
dues_are rows n a k zero p h =
    sym (sum_none rows (brought (account n a (k + p))) (none_brought rows n a (k + 0) (k + p) h (omega arith)))
dues_are rows n a k (suc m) zero h =
    let same : k ≡ k + 0 = omega arith in
    ap (λ (q : ℕ). position_in rows (account n a q)) same
dues_are rows n a k (suc m) (suc p) h =
    let same : suc k + p ≡ k + suc p = omega arith in
    let more : k + suc m ≡ suc k + m = omega arith in
    dues_are rows n a (suc k) m p (ap (λ (j : ℕ). are_among j rows) (sym more) ∙ h) ∙ ap (λ (q : ℕ). position_in rows (account n a q)) same

-- the rows are among the first m parties, and what they come to on a day in an asset is settled in turn
abbrev pub settles_in_turn : ℕ → ℤ → ℕ → List FlowRow → List FlowRow → Bool
settles_in_turn m n a rows settled = are_among m rows && pays_in_turn (dues rows n a 0 m) (filter (is_on n a) settled)

pub settled_by_test : (m : ℕ) (n : ℤ) (a : ℕ) (rows settled : List FlowRow) → settles_in_turn m n a rows settled ≡ true → PayInTurn (λ p. position_in rows (account n a p)) (filter (is_on n a) settled)
settled_by_test m n a rows settled h =
    let parts = and_parts (are_among m rows) (pays_in_turn (dues rows n a 0 m) (filter (is_on n a) settled)) h in
    subst (λ (due : ℕ → ℤ). PayInTurn due (filter (is_on n a) settled)) (λ i p. same p parts.0 i)
    (in_turn_by_test (dues rows n a 0 m) (filter (is_on n a) settled) parts.1)
  where
    same : (p : ℕ) → are_among m rows ≡ true → due_in (dues rows n a 0 m) p ≡ position_in rows (account n a p)
    same p h =
        let all : 0 + m ≡ m = omega arith in
        let here : 0 + p ≡ p = omega arith in
        dues_are rows n a 0 m p (ap (λ (j : ℕ). are_among j rows) all ∙ h) ∙ ap (λ (q : ℕ). position_in rows (account n a q)) here
