-- The rows of payments are on the payments' days, and of amounts that their lines can hold.
use Rattle.std.proofs.Common.{◌≡◌, ℕ, ◌^◌, ◌≤◌, ℤ, pos, neg_ℤ, ◌≤ℤ◌, Bool, true, false, int_lt, if◌then◌else◌, List, [], ◌∷◌, ◌++◌, refl, subst, arith, unsigned_abs}
use Rattle.std.specs.List.{All}
use Rattle.std.specs.Ordering.{int_eq}
use Rattle.std.proofs.lemmas.List.Elements.{All-append, All-nil, All-cons, All-head, All-tail}
use Rattle.std.proofs.lemmas.Int.{ints}
use Rattle.flow_eval.specs.declared.flow_table.FlowRow.{FlowRow}
use Rattle.flow_eval.specs.declared.payments.Payment.{Payment}
use Rattle.flow_eval.specs.Tables.{IsDueRow}
use Rattle.flow_eval.specs.Netting.{AreDue, CanBeNetted, closed, joined, row_of, rows_from, rows_of, same_slot}
use Rattle.flow_eval.proofs.SizeFacts.{fits_first, fits_next, fits_rest}

-- a row on a day from the first to the last, of at most so much
abbrev IsRow : ℤ → ℤ → ℕ → FlowRow → Type 0
IsRow first last most row = (first ≤ℤ row.day) × (row.day ≤ℤ last) × (unsigned_abs row.amount ≤ most)

row_by : (up : Bool) (first last : ℤ) (most : ℕ) (p : Payment) → first ≤ℤ p.slot.day → p.slot.day ≤ℤ last → unsigned_abs p.amount ≤ most
    → IsRow first last most (if up then record { day = p.slot.day; asset = p.slot.asset; from = p.slot.lower; to = p.slot.higher; amount = p.amount } else record { day = p.slot.day; asset = p.slot.asset; from = p.slot.higher; to = p.slot.lower; amount = neg_ℤ p.amount })
row_by true first last most p from to small = (from, to, small)
row_by false first last most p from to small = (from, to, omega (arith, ints))

closed_by : (none : Bool) (first last : ℤ) (most : ℕ) (row : FlowRow) → IsRow first last most row → All (IsRow first last most) (if none then [] else row ∷ [])
closed_by true first last most row is = All-nil (IsRow first last most)
closed_by false first last most row is = All-cons (IsRow first last most) row [] is (All-nil (IsRow first last most))

closed_are : (first last : ℤ) (most : ℕ) (p : Payment) → first ≤ℤ p.slot.day → p.slot.day ≤ℤ last → unsigned_abs p.amount ≤ most → All (IsRow first last most) (closed p)
closed_are first last most p from to small =
    closed_by (int_eq p.amount (pos 0)) first last most (row_of p) (row_by (int_lt (pos 0) p.amount) first last most p from to small)

either : (same : Bool) (P : FlowRow → Type 0) (one other : List FlowRow) → (same ≡ true → All P one) → (same ≡ false → All P other) → All P (if same then one else other)
either true P one other h k = h refl
either false P one other h k = k refl

abbrev IsDay : ℤ → ℤ → Payment → Type 0
IsDay first last p = (first ≤ℤ p.slot.day) × (p.slot.day ≤ℤ last)

rows_are : (first last : ℤ) (sum : Payment) (ps : List Payment) → IsDay first last sum → AreDue first last ps → CanBeNetted (sum ∷ ps) → All (IsDueRow first last) (rows_from sum ps)
rows_are first last sum [] day due fits = closed_are first last (10 ^ 36) sum day.0 day.1 (fits_first sum [] fits)
rows_are first last sum (p ∷ ps) day due fits =
    let next = All-head (IsDay first last) p ps due in
    let days = All-tail (IsDay first last) p ps due in
    either (same_slot sum.slot p.slot) (IsDueRow first last) (rows_from (joined sum p) ps) (closed sum ++ rows_from p ps)
    (λ same. rows_are first last (joined sum p) ps day days (subst (λ (b : Bool). CanBeNetted ((if b then joined sum p else p) ∷ ps)) same (fits_next sum p ps fits)))
    (λ other. All-append (IsDueRow first last) (closed sum) (rows_from p ps) (closed_are first last (10 ^ 36) sum day.0 day.1 (fits_first sum (p ∷ ps) fits)) (rows_are first last p ps next days (fits_rest sum (p ∷ ps) fits)))

-- the rows of payments that can be netted
pub rows_due : (first last : ℤ) (ps : List Payment) → AreDue first last ps → CanBeNetted ps → All (IsDueRow first last) (rows_of ps)
rows_due first last [] due fits = All-nil (IsDueRow first last)
rows_due first last (p ∷ ps) due fits = rows_are first last p ps (All-head (IsDay first last) p ps due) (All-tail (IsDay first last) p ps due) fits
