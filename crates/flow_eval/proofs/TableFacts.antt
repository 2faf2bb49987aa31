-- There is one flow table of what is paid.
use Rattle.std.proofs.Common.{◌≡◌, ◌<◌, ℤ, pos, ◌<ℤ◌, ◌⊎◌, inl, inr, List, [], ◌∷◌, get_or, refl, ap, sym, ◌∙◌, subst, arith}
use Rattle.std.specs.List.{All, Contains}
use Rattle.std.proofs.lemmas.List.Elements.{All-head, All-tail, All-weaker, All-contains, Contains-append_cases, Contains-push_cases}
use Rattle.term_model.specs.Flows.{Flow}
use Rattle.flow_eval.specs.declared.flow_table.FlowRow.{FlowRow}
use Rattle.flow_eval.specs.Tables.{AreOrdered, IsPaid, IsTable, Precedes, TablesAreOne, flow_in, row_for, slot_of}
use Rattle.flow_eval.proofs.SlotFacts.{not_both, not_itself}

pub nothing_held : {A : Type 0} (x : FlowRow) → Contains [] x → A
nothing_held x h =
    let none : h.0 < 0 = h.1 in
    absurd (omega arith)

only_first : (x y : FlowRow) → Contains [] x ⊎ (y ≡ x) → y ≡ x
only_first x y (inl k) = nothing_held x k
only_first x y (inr e) = e

first_or_rest : (x y : FlowRow) (ys : List FlowRow) → Contains (y ∷ []) x ⊎ Contains ys x → (y ≡ x) ⊎ Contains ys x
first_or_rest x y ys (inl h) = inl (only_first x y (Contains-push_cases [] y x h))
first_or_rest x y ys (inr h) = inr h

-- what a list holds is its first element or one of the others
pub held_by : (y : FlowRow) (ys : List FlowRow) (x : FlowRow) → Contains (y ∷ ys) x → (y ≡ x) ⊎ Contains ys x
held_by y ys x h = first_or_rest x y ys (Contains-append_cases (y ∷ []) ys x h)

pub all_both : {X : Type 0} (P Q R : X → Type 0) → ((x : X) → P x → Q x → R x) → (xs : List X) → All P xs → All Q xs → All R xs
all_both P Q R f xs h k = λ i d l. f (get_or xs i d) (h i d l) (k i d l)

heads : (x y : FlowRow) (xs ys : List FlowRow) → All (λ next. Precedes (slot_of x) (slot_of next)) xs → All (λ next. Precedes (slot_of y) (slot_of next)) ys
    → (y ≡ x) ⊎ Contains ys x → (x ≡ y) ⊎ Contains xs y → x ≡ y
heads x y xs ys o p (inl e) k = sym e
heads x y xs ys o p (inr h) (inl e) = e
heads x y xs ys o p (inr h) (inr k) =
    absurd (not_both (slot_of y) (slot_of x) (All-contains (λ next. Precedes (slot_of y) (slot_of next)) ys x p h) (All-contains (λ next. Precedes (slot_of x) (slot_of next)) xs y o k))

later : (y : FlowRow) (ys : List FlowRow) (z : FlowRow) → Precedes (slot_of y) (slot_of z) → (y ≡ z) ⊎ Contains ys z → Contains ys z
later y ys z before (inl e) = absurd (not_itself (slot_of z) (subst (λ (r : FlowRow). Precedes (slot_of r) (slot_of z)) e before))
later y ys z before (inr h) = h

tails : (x y : FlowRow) (xs ys : List FlowRow) → x ≡ y → All (λ next. Precedes (slot_of x) (slot_of next)) xs → All (Contains (y ∷ ys)) xs → All (Contains ys) xs
tails x y xs ys e o h =
    all_both (λ next. Precedes (slot_of x) (slot_of next)) (Contains (y ∷ ys)) (Contains ys) (λ z before held. later y ys z (subst (λ (r : FlowRow). Precedes (slot_of r) (slot_of z)) e before) (held_by y ys z held)) xs o h

-- two lists in order that hold the same rows
same_rows : (one other : List FlowRow) → AreOrdered one → AreOrdered other → All (Contains other) one → All (Contains one) other → one ≡ other
same_rows [] [] o p h k = refl
same_rows [] (y ∷ ys) o p h k = nothing_held y (All-head (Contains []) y ys k)
same_rows (x ∷ xs) [] o p h k = nothing_held x (All-head (Contains []) x xs h)
same_rows (x ∷ xs) (y ∷ ys) o p h k =
    let first : x ≡ y = heads x y xs ys o.0 p.0 (held_by y ys x (All-head (Contains (y ∷ ys)) x xs h)) (held_by x xs y (All-head (Contains (x ∷ xs)) y ys k)) in
    let rest = same_rows xs ys o.1 p.1 (tails x y xs ys first o.0 (All-tail (Contains (y ∷ ys)) x xs h)) (tails y x ys xs (sym first) p.0 (All-tail (Contains (x ∷ xs)) y ys k)) in
    ap (λ (r : FlowRow). r ∷ xs) first ∙ ap (λ (rows : List FlowRow). y ∷ rows) rest

-- a row of one table is in the other
in_other : (pays : ℤ → Flow → ℤ) (first last : ℤ) (other : List FlowRow) → IsTable pays first last other → (row : FlowRow) → IsPaid pays first last row → Contains other row
in_other pays first last other table row is =
    subst (λ (amount : ℤ). Contains other (row_for row.day (flow_in row) amount)) (sym is.exact) (table.whole row.day (flow_in row) is.no_sooner is.no_later (subst (λ (amount : ℤ). pos 0 <ℤ amount) is.exact is.some))

pub tables_are_one : TablesAreOne
tables_are_one pays first last one other table another =
    same_rows one other table.ordered another.ordered (All-weaker (IsPaid pays first last) (Contains other) (in_other pays first last other another) one table.right) (All-weaker (IsPaid pays first last) (Contains one) (in_other pays first last one table) other another.right)
