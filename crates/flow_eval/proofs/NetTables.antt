-- Netted rows are the flow table of what is paid.
use Rattle.std.proofs.Common.{◌≡◌, ℕ, ◌<◌, ◌≤◌, ℤ, pos, neg_ℤ, ◌-ℤ◌, ◌<ℤ◌, ◌≤ℤ◌, Bool, true, false, int_lt, if◌then◌else◌, inl, inr, List, [], ◌∷◌, None, refl, ap, sym, ◌∙◌, subst, arith, unsigned_abs}
use Rattle.std.proofs.Math.IntN.{neg_ℤ-neg_ℤ}
use Rattle.std.specs.List.{All, Contains}
use Rattle.std.specs.List.Sorted.{IsPermutation}
use Rattle.std.proofs.lemmas.Int.{ints}
use Rattle.std.proofs.lemmas.Bool.{cases_lt}
use Rattle.std.proofs.lemmas.List.Sorted.{All-permutation}
use Rattle.std.proofs.lemmas.List.Elements.{All-head, All-tail, All-weaker}
use Rattle.term_model.specs.Declarations.{Declarations}
use Rattle.term_model.specs.Terms.{Contract}
use Rattle.term_model.specs.Environments.{Environment, Extends}
use Rattle.term_model.specs.Flows.{Flow, amount_of, scale_of_contract}
use Rattle.term_model.specs.Reads.{first_unfixed, reads_of_contract}
use Rattle.term_model.specs.LawsFlows.{reversed}
use Rattle.term_model.proofs.FlowFacts.{amounts_opposite}
use Rattle.term_model.proofs.ReadLawFacts.{amounts_fixed}
use Rattle.flow_eval.specs.declared.flow_table.FlowRow.{FlowRow}
use Rattle.flow_eval.specs.declared.flow_table.Slot.{Slot}
use Rattle.flow_eval.specs.declared.payments.Payment.{Payment}
use Rattle.flow_eval.specs.Payments.{payments_of}
use Rattle.flow_eval.specs.Netting.{AreInOrder, row_of, rows_of}
use Rattle.flow_eval.specs.Tables.{IsPaid, IsTable, flow_in, paid_by, row_for, IsMutual}
use Rattle.flow_eval.proofs.PaidFacts.{flow_at}
use Rattle.flow_eval.proofs.PaymentFacts.{Counts, payments_count}
use Rattle.flow_eval.proofs.PaymentSums.{sum_at-payments_of}
use Rattle.flow_eval.proofs.RowFacts.{AreNet, IsNet, net_none, row_at, rows_net}
use Rattle.flow_eval.proofs.SumFacts.{sum_at, sum_at-permutation}
use Rattle.interval_check.proofs.NarrowFacts.{is_above}

above : (x : ℤ) → int_lt (pos 0) x ≡ true → pos 0 <ℤ x
above x h = grind (arith, ints)

below : (x : ℤ) → int_lt (pos 0) x ≡ false → (x ≡ pos 0 → ⊥) → pos 0 <ℤ neg_ℤ x
below x h some = grind (arith, ints)

paid_at : (pays : ℤ → Flow → ℤ) → IsMutual pays → (first last : ℤ) (s : Slot) (x : ℤ) (up : Bool) → Counts first last s → x ≡ pays s.day (flow_at s) → (up ≡ true → pos 0 <ℤ x) → (up ≡ false → pos 0 <ℤ neg_ℤ x)
    → IsPaid pays first last (if up then record { day = s.day; asset = s.asset; from = s.lower; to = s.higher; amount = x } else record { day = s.day; asset = s.asset; from = s.higher; to = s.lower; amount = neg_ℤ x })
paid_at pays opposite first last s x true counts is f g = record { no_sooner = counts.0; no_later = counts.1; some = f refl; exact = is }
paid_at pays opposite first last s x false counts is f g = record { no_sooner = counts.0; no_later = counts.1; some = g refl; exact = ap neg_ℤ is ∙ sym (opposite s.day (flow_at s)) }

-- a row of a sum is paid
net_paid : (pays : ℤ → Flow → ℤ) → IsMutual pays → (first last : ℤ) (total : Slot → ℤ) → ((s : Slot) → s.lower < s.higher → first ≤ℤ s.day → s.day ≤ℤ last → total s ≡ pays s.day (flow_at s))
    → (row : FlowRow) → IsNet (Counts first last) total row → IsPaid pays first last row
net_paid pays opposite first last total same row net =
    let x = total net.slot in
    subst (IsPaid pays first last) (sym net.is) (paid_at pays opposite first last net.slot x (int_lt (pos 0) x) net.counts (same net.slot net.counts.2 net.counts.0 net.counts.1) (above x) (λ down. below x down net.some))

row_up : (s : Slot) (x : ℤ) (up : Bool) → up ≡ true
    → (if up then record { day = s.day; asset = s.asset; from = s.lower; to = s.higher; amount = x } else record { day = s.day; asset = s.asset; from = s.higher; to = s.lower; amount = neg_ℤ x }) ≡ row_for s.day (flow_at s) x
row_up s x true h = refl
row_up s x false h = absurd (cc)

row_down : (s : Slot) (x : ℤ) (up : Bool) → up ≡ false
    → (if up then record { day = s.day; asset = s.asset; from = s.lower; to = s.higher; amount = x } else record { day = s.day; asset = s.asset; from = s.higher; to = s.lower; amount = neg_ℤ x }) ≡ row_for s.day (reversed (flow_at s)) (neg_ℤ x)
row_down s x true h = absurd (cc)
row_down s x false h = refl

below_is : (x : ℤ) → pos 0 <ℤ x → int_lt (pos 0) (neg_ℤ x) ≡ false
below_is x h = grind (arith, ints)

not_zero : (x y : ℤ) → pos 0 <ℤ y → x ≡ y → x ≡ pos 0 → ⊥
not_zero x y h e z = omega (arith, ints)

not_zero_back : (x y : ℤ) → pos 0 <ℤ y → x ≡ neg_ℤ y → x ≡ pos 0 → ⊥
not_zero_back x y h e z = omega (arith, ints)

no_opposite : (x : ℤ) → x ≡ neg_ℤ x → pos 0 <ℤ x → ⊥
no_opposite x e h = omega (arith, ints)

-- what goes from a lower party to a higher one is held
held_up : (rows : List FlowRow) (total : Slot → ℤ) (s : Slot) (x : ℤ) → pos 0 <ℤ x → total s ≡ x → ((total s ≡ pos 0 → ⊥) → Contains rows (row_at total s)) → Contains rows (row_for s.day (flow_at s) x)
held_up rows total s x h e whole =
    subst (Contains rows) (ap (λ (y : ℤ). row_of (record { slot = s; amount = y })) e ∙ row_up s x (int_lt (pos 0) x) (is_above x h)) (whole (not_zero (total s) x h e))

-- and what goes back
held_down : (rows : List FlowRow) (total : Slot → ℤ) (s : Slot) (x : ℤ) → pos 0 <ℤ x → total s ≡ neg_ℤ x → ((total s ≡ pos 0 → ⊥) → Contains rows (row_at total s)) → Contains rows (row_for s.day (reversed (flow_at s)) x)
held_down rows total s x h e whole =
    subst (Contains rows) (ap (λ (y : ℤ). row_of (record { slot = s; amount = y })) e ∙ row_down s (neg_ℤ x) (int_lt (pos 0) (neg_ℤ x)) (below_is x h) ∙ ap (λ (y : ℤ). row_for s.day (reversed (flow_at s)) y) (neg_ℤ-neg_ℤ x)) (whole (not_zero_back (total s) x h e))

by_order : (P : Type 0) (p q : ℕ) → (p < q → P) → (q < p → P) → (p ≡ q → P) → P
by_order P p q f g h = elim (cases_lt p q) [ inl l ↦ f l | inr l ↦ elim (cases_lt q p) [ inl m ↦ g m | inr m ↦ h (level p q l m) ] ]
  where
    level : (p q : ℕ) → q ≤ p → p ≤ q → p ≡ q
    level p q l m = omega arith

pub to_itself : (pays : ℤ → Flow → ℤ) → IsMutual pays → (day : ℤ) (w : Flow) → w.from ≡ w.to → pos 0 <ℤ pays day w → ⊥
to_itself pays opposite day w same some =
    let turned : reversed w ≡ w = ap (λ (x : ℕ). let v : Flow = record { from = x; to = w.from; asset = w.asset } in v) (sym same) ∙ ap (λ (x : ℕ). let v : Flow = record { from = w.from; to = x; asset = w.asset } in v) same in
    no_opposite (pays day w) (sym (ap (pays day) turned) ∙ opposite day w) some

-- rows that net what is paid are the table of it
pub table_from_net : (pays : ℤ → Flow → ℤ) → IsMutual pays → (first last : ℤ) (from : Slot) (total : Slot → ℤ) (rows : List FlowRow) → ((s : Slot) → s.lower < s.higher → first ≤ℤ s.day → s.day ≤ℤ last → total s ≡ pays s.day (flow_at s))
    → AreNet (Counts first last) from total rows → IsTable pays first last rows
table_from_net pays opposite first last from total rows same net = record {
  ordered = net.ordered;
  right = All-weaker (IsNet (Counts first last) total) (IsPaid pays first last) (net_paid pays opposite first last total same) rows net.right;
  whole = λ day w starts due some. by_order (Contains rows (row_for day w (pays day w))) w.from w.to
      (λ up. let s : Slot = record { day = day; asset = w.asset; lower = w.from; higher = w.to } in held_up rows total s (pays day w) some (same s up starts due) (net.whole s))
      (λ down. let s : Slot = record { day = day; asset = w.asset; lower = w.to; higher = w.from } in held_down rows total s (pays day w) some (same s down starts due ∙ opposite day w) (net.whole s))
      (λ level. absurd (to_itself pays opposite day w level some));
}

pub rows_net_of : (first last : ℤ) (qs : List Payment) → All (λ p. Counts first last p.slot) qs → AreInOrder qs → (from : Slot) × AreNet (Counts first last) from (λ s. sum_at s qs) (rows_of qs)
rows_net_of first last [] all order =
    let nowhere : Slot = record { day = pos 0; asset = 0; lower = 0; higher = 0 } in
    (nowhere, net_none (Counts first last) nowhere)
rows_net_of first last (q ∷ qs) all order =
    (q.slot, rows_net (Counts first last) (λ s counts. counts.2) q qs (All-head (λ (p : Payment). Counts first last p.slot) q qs all) (All-tail (λ (p : Payment). Counts first last p.slot) q qs all) order.0 order.1)

-- ---- the payments of a contract

pub payments_table : (d : Declarations) (env : Environment) (c : Contract) (first last : ℤ) (ps qs : List Payment) → scale_of_contract d c [] ≤ d.amounts → ps ≡ payments_of d d.amounts c [] env first last → IsPermutation ps qs → AreInOrder qs
    → IsTable (paid_by d c env first) first last (rows_of qs)
payments_table d env c first last ps qs fits gathered moved order =
    let all : All (λ (p : Payment). Counts first last p.slot) qs = All-permutation (λ (p : Payment). Counts first last p.slot) ps qs moved (subst (λ (xs : List Payment). All (λ (p : Payment). Counts first last p.slot) xs) (sym gathered) (payments_count d env first last c [] d.amounts first (omega (arith, ints)))) in
    let net = rows_net_of first last qs all order in
    table_from_net (paid_by d c env first) (λ day w. amounts_opposite d c env first (day -ℤ first) w) first last net.0 (λ s. sum_at s qs) (rows_of qs)
    (λ s pair starts due. sum_at-permutation s ps qs moved ∙ ap (λ (xs : List Payment). sum_at s xs) gathered ∙ sum_at-payments_of d env s last c [] d.amounts first pair due fits) net.1

-- ---- in other environments

paid_same : (one other : ℤ → Flow → ℤ) (first last : ℤ) → ((day : ℤ) (w : Flow) → first ≤ℤ day → day ≤ℤ last → one day w ≡ other day w) → (row : FlowRow) → IsPaid one first last row → IsPaid other first last row
paid_same one other first last same row is = record {
  no_sooner = is.no_sooner;
  no_later = is.no_later;
  some = is.some;
  exact = is.exact ∙ same row.day (flow_in row) is.no_sooner is.no_later;
}

-- where the same is paid on these days, the table is the same
pub table_same : (one other : ℤ → Flow → ℤ) (first last : ℤ) (rows : List FlowRow) → ((day : ℤ) (w : Flow) → first ≤ℤ day → day ≤ℤ last → one day w ≡ other day w) → IsTable one first last rows → IsTable other first last rows
table_same one other first last rows same table = record {
  ordered = table.ordered;
  right = All-weaker (IsPaid one first last) (IsPaid other first last) (paid_same one other first last same) rows table.right;
  whole = λ day w from to some.
      subst (λ (x : ℤ). Contains rows (row_for day w x)) (same day w from to) (table.whole day w from to (subst (λ (x : ℤ). pos 0 <ℤ x) (sym (same day w from to)) some));
}

own_day : (first day : ℤ) → first ≤ℤ day → pos (unsigned_abs (day -ℤ first)) ≡ day -ℤ first
own_day first day h = omega (arith, ints)

in_time : (first last day : ℤ) → first ≤ℤ day → day ≤ℤ last → unsigned_abs (day -ℤ first) ≤ unsigned_abs (last -ℤ first)
in_time first last day h k = omega (arith, ints)

not_past : (first last day : ℤ) → first ≤ℤ day → day ≤ℤ last → first ≤ℤ last
not_past first last day h k = omega (arith, ints)

-- the amounts are known where no read is unfixed
amounts_same : (d : Declarations) (c : Contract) (fixings env : Environment) (first last : ℤ) → Extends fixings env → first_unfixed fixings (reads_of_contract d c [] [] fixings first (pos 0) (last -ℤ first)) ≡ None
    → (day : ℤ) (w : Flow) → first ≤ℤ day → day ≤ℤ last → paid_by d c fixings first day w ≡ paid_by d c env first day w
amounts_same d c fixings env first last extends fixed day w from to =
    let b = own_day first last (not_past first last day from to) in
    let reads : first_unfixed fixings (reads_of_contract d c [] [] fixings first (pos 0) (pos (unsigned_abs (last -ℤ first)))) ≡ None = ap (λ (x : ℤ). first_unfixed fixings (reads_of_contract d c [] [] fixings first (pos 0) x)) b ∙ fixed in
    ap (λ (x : ℤ). amount_of d c fixings first x w) (sym (own_day first day from))
    ∙ sym (amounts_fixed d c fixings env first (unsigned_abs (last -ℤ first)) extends reads (unsigned_abs (day -ℤ first)) (in_time first last day from to) w)
    ∙ ap (λ (x : ℤ). amount_of d c env first x w) (own_day first day from)

pub table_everywhere : (d : Declarations) (c : Contract) (fixings env : Environment) (first last : ℤ) (rows : List FlowRow) → Extends fixings env → first_unfixed fixings (reads_of_contract d c [] [] fixings first (pos 0) (last -ℤ first)) ≡ None
    → IsTable (paid_by d c fixings first) first last rows → IsTable (paid_by d c env first) first last rows
table_everywhere d c fixings env first last rows extends fixed table =
    table_same (paid_by d c fixings first) (paid_by d c env first) first last rows (amounts_same d c fixings env first last extends fixed) table
