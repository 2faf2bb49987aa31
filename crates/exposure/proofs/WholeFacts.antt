-- Where the amounts of tables are whole numbers at the decimals of their assets, so are positions, since sums and differences
-- of such numbers are such numbers, and so are payments in turn, since the lesser of two is one of them.
use Rattle.std.proofs.Common.{◌≡◌, ℕ, ◌-◌, ◌^◌, ℤ, pos, neg_ℤ, ◌-ℤ◌, Bool, true, false, ◌&&◌, ◌==◌, int_eq, if◌then◌else◌, inl, inr, ◌⊎◌, List, [], ◌∷◌, refl, ap, ap₂, sym, ◌∙◌, subst, arith}
use Rattle.std.specs.Int.{int_min}
use Rattle.std.specs.List.{All, filter}
use Rattle.std.proofs.lemmas.Int.{ints}
use Rattle.std.proofs.lemmas.Bool.{eqb-true}
use Rattle.std.proofs.lemmas.List.Elements.{All-nil, All-cons, All-head, All-tail, All-weaker}
use Rattle.term_model.specs.Declarations.{Declarations, decimals_of}
use Rattle.term_model.specs.LawsScales.{IsMultiple}
use Rattle.term_model.proofs.FlowFacts.{raised-neg}
use Rattle.term_model.proofs.MultipleFacts.{none_multiple, sum_multiple}
use Rattle.interval_check.proofs.MultipleFacts.{times-sub}
use Rattle.flow_eval.specs.declared.flow_table.FlowRow.{FlowRow}
use Rattle.flow_eval.specs.declared.flow_table.FlowTable.{FlowTable}
use Rattle.report.specs.FlowLines.{HaveLines, IsWholeInAsset}
use Rattle.exposure.specs.declared.accounts.Account.{Account}
use Rattle.report.specs.Sums.{sum_over}
use Rattle.exposure.specs.Positions.{IsPosition, account_of, brings, brought, is_on, position, position_in}
use Rattle.exposure.specs.Settlement.{IsTurn, PayInTurn, account, due_after}
use Rattle.exposure.specs.LawsTables.{AreWholeInAssets, PositionsAreWhole, SettledAreWhole}
use Rattle.exposure.proofs.TableSums.{filtered_all}

-- ---- multiples

negative_multiple : (x : ℤ) (k : ℕ) → IsMultiple x k → IsMultiple (neg_ℤ x) k
negative_multiple x k h = (neg_ℤ h.0, ap neg_ℤ h.1 ∙ sym (raised-neg h.0 k))

difference_multiple : (x y : ℤ) (k : ℕ) → IsMultiple x k → IsMultiple y k → IsMultiple (x -ℤ y) k
difference_multiple x y k h g = (h.0 -ℤ g.0, ap₂ (λ (u v : ℤ). u -ℤ v) h.1 g.1 ∙ sym (times-sub h.0 g.0 (10 ^ k)))

one_of_both : (x y : ℤ) → (int_min x y ≡ x) ⊎ (int_min x y ≡ y)
one_of_both x y = grind (arith, ints)

lesser_multiple : (x y : ℤ) (k : ℕ) → IsMultiple x k → IsMultiple y k → IsMultiple (int_min x y) k
lesser_multiple x y k h g =
    elim (one_of_both x y) [
      | inl e ↦ subst (λ (z : ℤ). IsMultiple z k) (sym e) h
      | inr e ↦ subst (λ (z : ℤ). IsMultiple z k) (sym e) g
    ]

chosen_multiple : (b : Bool) (x : ℤ) (k : ℕ) → (b ≡ true → IsMultiple x k) → IsMultiple (if b then x else pos 0) k
chosen_multiple true x k h = h refl
chosen_multiple false x k h = none_multiple k

sum_of_multiples : {X : Type 0} (xs : List X) (f : X → ℤ) (k : ℕ) → All (λ x. IsMultiple (f x) k) xs → IsMultiple (sum_over xs f) k
sum_of_multiples [] f k h = none_multiple k
sum_of_multiples (x ∷ xs) f k h =
    sum_multiple (f x) (sum_over xs f) k (All-head (λ y. IsMultiple (f y) k) x xs h) (sum_of_multiples xs f k (All-tail (λ y. IsMultiple (f y) k) x xs h))

-- ---- positions

brings_multiple : (p : ℕ) (row : FlowRow) (k : ℕ) → IsMultiple row.amount k → IsMultiple (brings p row) k
brings_multiple p row k h =
    difference_multiple (if row.to == p then row.amount else pos 0) (if row.from == p then row.amount else pos 0) k
    (chosen_multiple (row.to == p) row.amount k (λ t. h)) (chosen_multiple (row.from == p) row.amount k (λ t. h))

right_true : (a b : Bool) → (a && b) ≡ true → b ≡ true
right_true true b h = h
right_true false b h = absurd (cc)

-- how many decimals of the amounts an asset leaves out
abbrev left_out : Declarations → ℕ → ℕ
left_out d a = d.amounts - decimals_of d a

brought_whole : (d : Declarations) (x : Account) (row : FlowRow) → IsWholeInAsset d row.asset row.amount → IsMultiple (brought x row) (left_out d x.asset)
brought_whole d x row h =
    chosen_multiple (is_on x.day x.asset row) (brings x.party row) (left_out d x.asset)
    (λ t. brings_multiple x.party row (left_out d x.asset) (subst (λ (a : ℕ). IsMultiple row.amount (left_out d a)) (eqb-true row.asset x.asset (right_true (int_eq row.day x.day) (row.asset == x.asset) t)) h))

rows_whole : (d : Declarations) (x : Account) (rows : List FlowRow) → HaveLines d rows → IsMultiple (position_in rows x) (left_out d x.asset)
rows_whole d x rows h =
    sum_of_multiples rows (brought x) (left_out d x.asset)
    (All-weaker (λ row. IsWholeInAsset d row.asset row.amount) (λ row. IsMultiple (brought x row) (left_out d x.asset)) (brought_whole d x) rows h)

position_whole : (d : Declarations) (x : Account) (tables : List FlowTable) → AreWholeInAssets d tables → IsMultiple (position tables x) (left_out d x.asset)
position_whole d x tables h =
    sum_of_multiples tables (λ table. position_in table.rows.items x) (left_out d x.asset)
    (All-weaker (λ table. HaveLines d table.rows.items) (λ table. IsMultiple (position_in table.rows.items x) (left_out d x.asset)) (λ table. rows_whole d x table.rows.items) tables h)

pub positions_are_whole : PositionsAreWhole
positions_are_whole d tables rows h are =
    All-weaker (IsPosition tables) (λ row. IsWholeInAsset d row.asset row.amount)
    (λ row is. subst (λ (x : ℤ). IsWholeInAsset d row.asset x) (sym is.exact) (position_whole d (account_of row) tables h)) rows are.right

-- ---- payments in turn

turn_multiple : (due : ℕ → ℤ) (row : FlowRow) (k : ℕ) → IsTurn due row → ((p : ℕ) → IsMultiple (due p) k) → IsMultiple row.amount k
turn_multiple due row k turn h =
    subst (λ (x : ℤ). IsMultiple x k) (sym turn.lesser) (lesser_multiple (neg_ℤ (due row.from)) (due row.to) k (negative_multiple (due row.from) k (h row.from)) (h row.to))

turns_multiple : (due : ℕ → ℤ) (rows : List FlowRow) (k : ℕ) → PayInTurn due rows → ((p : ℕ) → IsMultiple (due p) k) → All (λ row. IsMultiple row.amount k) rows
turns_multiple due [] k turns h = All-nil (λ row. IsMultiple row.amount k)
turns_multiple due (row ∷ rows) k turns h =
    let here = turn_multiple due row k turns.0 h in
    All-cons (λ r. IsMultiple r.amount k) row rows here
    (turns_multiple (due_after due row) rows k turns.1 (λ p. difference_multiple (due p) (brings p row) k (h p) (brings_multiple p row k here)))

pub settled_are_whole : SettledAreWhole
settled_are_whole d tables rows h paid =
    filtered_all (λ a row. IsWholeInAsset d a row.amount) rows (λ n a. turns_multiple (λ p. position tables (account n a p)) (filter (is_on n a) rows) (left_out d a) (paid n a) (λ p. position_whole d (account n a p) tables h))
