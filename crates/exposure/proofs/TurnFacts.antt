-- What follows of payments in turn: they pay just what is due; each settles one of its two parties, so they are few, no two of
-- them have the same payer and the same payee, and neither payers nor payees go back.
use Rattle.std.proofs.Common.{◌≡◌, ℕ, zero, suc, ◌+◌, ◌-◌, ◌≤◌, ◌<◌, ℤ, pos, neg_ℤ, ◌+ℤ◌, ◌-ℤ◌, ◌<ℤ◌, ◌≤ℤ◌, unsigned_abs, min, max, Bool, true, false, ◌==◌, cond, if◌then◌else◌, inl, inr, ◌⊎◌, List, [], ◌∷◌, length, get_or, refl, ap, sym, ◌∙◌, subst, arith}
use Rattle.std.specs.Int.{int_min}
use Rattle.std.specs.List.{All, Contains, count_by}
use Rattle.std.proofs.lemmas.Int.{ints}
use Rattle.std.proofs.lemmas.Bool.{cases_lt, eq-eqb, eqb-true}
use Rattle.std.proofs.lemmas.List.Elements.{All-nil, All-cons, All-contains}
use Rattle.std.proofs.lemmas.List.Sums.{sum_by-cons}
use Rattle.flow_eval.specs.declared.flow_table.FlowRow.{FlowRow}
use Rattle.report.specs.Sums.{sum_over}
use Rattle.exposure.specs.Positions.{brings}
use Rattle.exposure.specs.Settlement.{IsTurn, PayInTurn, IsPayment, due_after}
use Rattle.exposure.proofs.RenamingFacts.{member, member_cases, by_member}
use Rattle.exposure.proofs.AccountFacts.{by_test}

-- ---- what is paid is what is due

left_over : (b d : ℤ) (s : ℤ) → s ≡ d -ℤ b → b +ℤ s ≡ d
left_over b d s h = omega (arith, ints)

pub paid_total : (due : ℕ → ℤ) (rows : List FlowRow) → PayInTurn due rows → (p : ℕ) → sum_over rows (brings p) ≡ due p
paid_total due [] h p = sym (h p)
paid_total due (row ∷ rows) h p =
    left_over (brings p row) (due p) (sum_over rows (brings p)) (paid_total (due_after due row) rows h.1 p)

-- ---- each turn settles one of its two parties

parties_differ : (due : ℕ → ℤ) (row : FlowRow) → IsTurn due row → row.from ≡ row.to → ⊥
parties_differ due row h e = no (due row.from) (due row.to) (ap due e) h.payer.owes h.payee.owed
  where
    no : (x y : ℤ) → x ≡ y → x <ℤ pos 0 → pos 0 <ℤ y → ⊥
    no x y e h k = omega (arith, ints)

lesser_positive : (m x y : ℤ) → m ≡ int_min (neg_ℤ x) y → x <ℤ pos 0 → pos 0 <ℤ y → pos 0 <ℤ m
lesser_positive m x y e h k = grind (arith, ints)

pub turn_pays : (due : ℕ → ℤ) (row : FlowRow) → IsTurn due row → IsPayment row
turn_pays due row h =
    record { some = lesser_positive row.amount (due row.from) (due row.to) h.lesser h.payer.owes h.payee.owed; different = parties_differ due row h }

payer_part : (to from : Bool) (m d : ℤ) → to ≡ false → from ≡ true → d -ℤ ((if to then m else pos 0) -ℤ (if from then m else pos 0)) ≡ d +ℤ m
payer_part to from m d h k = rw (h, k) (omega (arith, ints))

payee_part : (to from : Bool) (m d : ℤ) → to ≡ true → from ≡ false → d -ℤ ((if to then m else pos 0) -ℤ (if from then m else pos 0)) ≡ d -ℤ m
payee_part to from m d h k = rw (h, k) (omega (arith, ints))

pub other_part : (to from : Bool) (m d : ℤ) → to ≡ false → from ≡ false → d -ℤ ((if to then m else pos 0) -ℤ (if from then m else pos 0)) ≡ d
other_part to from m d h k = rw (h, k) (omega (arith, ints))

pub not_same : (p q : ℕ) → (p ≡ q → ⊥) → (p == q) ≡ false
not_same p q h = by_test ((p == q) ≡ false) (p == q) (λ t. absurd (h (eqb-true p q t))) (λ t. t)

payer_after : (due : ℕ → ℤ) (row : FlowRow) → IsTurn due row → due_after due row row.from ≡ due row.from +ℤ row.amount
payer_after due row h =
    payer_part (row.to == row.from) (row.from == row.from) row.amount (due row.from) (not_same row.to row.from (λ e. parties_differ due row h (sym e))) (eq-eqb row.from row.from refl)

payee_after : (due : ℕ → ℤ) (row : FlowRow) → IsTurn due row → due_after due row row.to ≡ due row.to -ℤ row.amount
payee_after due row h =
    payee_part (row.to == row.to) (row.from == row.to) row.amount (due row.to) (eq-eqb row.to row.to refl) (not_same row.from row.to (parties_differ due row h))

one_zero : (x y m a b : ℤ) → m ≡ int_min (neg_ℤ x) y → a ≡ x +ℤ m → b ≡ y -ℤ m → (a ≡ pos 0) ⊎ (b ≡ pos 0)
one_zero x y m a b e h k = grind (arith, ints)

pub one_settled : (due : ℕ → ℤ) (row : FlowRow) → IsTurn due row → (due_after due row row.from ≡ pos 0) ⊎ (due_after due row row.to ≡ pos 0)
one_settled due row h =
    one_zero (due row.from) (due row.to) row.amount (due_after due row row.from) (due_after due row row.to) h.lesser (payer_after due row h) (payee_after due row h)

-- a party to which nothing is due takes no part
abbrev IsNotOf : ℕ → FlowRow → Type 0
IsNotOf z row = (row.from ≡ z → ⊥) × (row.to ≡ z → ⊥)

below_not : (x : ℤ) → x <ℤ pos 0 → x ≡ pos 0 → ⊥
below_not x h e = omega (arith, ints)

above_not : (x : ℤ) → pos 0 <ℤ x → x ≡ pos 0 → ⊥
above_not x h e = omega (arith, ints)

not_of_turn : (due : ℕ → ℤ) (row : FlowRow) (z : ℕ) → IsTurn due row → due z ≡ pos 0 → IsNotOf z row
not_of_turn due row z h e = (
  (λ same. below_not (due row.from) h.payer.owes (ap due same ∙ e)),
  (λ same. above_not (due row.to) h.payee.owed (ap due same ∙ e)),
)

still_nothing : (due : ℕ → ℤ) (row : FlowRow) (z : ℕ) → IsNotOf z row → due z ≡ pos 0 → due_after due row z ≡ pos 0
still_nothing due row z h e =
    other_part (row.to == z) (row.from == z) row.amount (due z) (not_same row.to z h.1) (not_same row.from z h.0) ∙ e

silent : (due : ℕ → ℤ) (rows : List FlowRow) (z : ℕ) → PayInTurn due rows → due z ≡ pos 0 → All (IsNotOf z) rows
silent due [] z h e = All-nil (IsNotOf z)
silent due (row ∷ rows) z h e =
    let here = not_of_turn due row z h.0 e in
    All-cons (IsNotOf z) row rows here (silent (due_after due row) rows z h.1 (still_nothing due row z here e))

-- ---- no payment is more than what is due at first

lesser_within : (m x y : ℤ) (n : ℕ) → m ≡ int_min (neg_ℤ x) y → x <ℤ pos 0 → pos 0 <ℤ y → unsigned_abs y ≤ n → unsigned_abs m ≤ n
lesser_within m x y n e h k l = let some = lesser_positive m x y e h k in let most = lesser_most m x y e in omega (arith, ints)
  where
    lesser_most : (m x y : ℤ) → m ≡ int_min (neg_ℤ x) y → m ≤ℤ y
    lesser_most m x y e = grind (arith, ints)

payer_within : (a x y m : ℤ) (n : ℕ) → m ≡ int_min (neg_ℤ x) y → x <ℤ pos 0 → pos 0 <ℤ y → a ≡ x +ℤ m → unsigned_abs x ≤ n → unsigned_abs a ≤ n
payer_within a x y m n e h k s l = let some = lesser_positive m x y e h k in let most = lesser_most m x y e in omega (arith, ints)
  where
    lesser_most : (m x y : ℤ) → m ≡ int_min (neg_ℤ x) y → m ≤ℤ neg_ℤ x
    lesser_most m x y e = grind (arith, ints)

payee_within : (a x y m : ℤ) (n : ℕ) → m ≡ int_min (neg_ℤ x) y → x <ℤ pos 0 → pos 0 <ℤ y → a ≡ y -ℤ m → unsigned_abs y ≤ n → unsigned_abs a ≤ n
payee_within a x y m n e h k s l = let some = lesser_positive m x y e h k in let most = lesser_most m x y e in omega (arith, ints)
  where
    lesser_most : (m x y : ℤ) → m ≡ int_min (neg_ℤ x) y → m ≤ℤ y
    lesser_most m x y e = grind (arith, ints)

-- nothing more is due than that
abbrev IsDueWithin : ℕ → (ℕ → ℤ) → Type 0
IsDueWithin n due = (p : ℕ) → unsigned_abs (due p) ≤ n

due_within : (n : ℕ) (due : ℕ → ℤ) (row : FlowRow) → IsTurn due row → IsDueWithin n due → IsDueWithin n (due_after due row)
due_within n due row h all p =
    by_test (unsigned_abs (due_after due row p) ≤ n) (row.from == p)
    (λ t. subst (λ (q : ℕ). unsigned_abs (due_after due row q) ≤ n) (eqb-true row.from p t) (payer_within (due_after due row row.from) (due row.from) (due row.to) row.amount n h.lesser h.payer.owes h.payee.owed (payer_after due row h) (all row.from)))
    (λ t. by_test (unsigned_abs (due_after due row p) ≤ n) (row.to == p)
    (λ u. subst (λ (q : ℕ). unsigned_abs (due_after due row q) ≤ n) (eqb-true row.to p u) (payee_within (due_after due row row.to) (due row.from) (due row.to) row.amount n h.lesser h.payer.owes h.payee.owed (payee_after due row h) (all row.to)))
    (λ u. subst (λ (x : ℤ). unsigned_abs x ≤ n) (sym (other_part (row.to == p) (row.from == p) row.amount (due p) u t)) (all p)))

pub paid_within : (n : ℕ) (due : ℕ → ℤ) (rows : List FlowRow) → PayInTurn due rows → IsDueWithin n due → All (λ row. unsigned_abs row.amount ≤ n) rows
paid_within n due [] h all = All-nil (λ row. unsigned_abs row.amount ≤ n)
paid_within n due (row ∷ rows) h all =
    All-cons (λ r. unsigned_abs r.amount ≤ n) row rows (lesser_within row.amount (due row.from) (due row.to) n h.0.lesser h.0.payer.owes h.0.payee.owed (all row.to)) (paid_within n (due_after due row) rows h.1 (due_within n due row h.0 all))

-- ---- few rows

-- a list of parties without one
abbrev without : ℕ → List ℕ → List ℕ
without z [] = []
without z (p ∷ ps) = if p == z then without z ps else p ∷ without z ps

without_less : (b : Bool) (p : ℕ) (ps : List ℕ) (n : ℕ) → length ps ≤ n → length (if b then ps else p ∷ ps) ≤ suc n
without_less true p ps n h = omega arith
without_less false p ps n h = omega arith

no_longer : (z : ℕ) (ps : List ℕ) → length (without z ps) ≤ length ps
no_longer z [] = omega arith
no_longer z (p ∷ ps) = without_less (p == z) p (without z ps) (length ps) (no_longer z ps)

gone : (b : Bool) (p : ℕ) (ps : List ℕ) (n : ℕ) → b ≡ true → length ps ≤ n → length (if b then ps else p ∷ ps) + 1 ≤ suc n
gone true p ps n e h = omega arith
gone false p ps n e h = absurd (cc)

gone_later : (b : Bool) (p : ℕ) (ps : List ℕ) (n : ℕ) → length ps + 1 ≤ n → length (if b then ps else p ∷ ps) + 1 ≤ suc n
gone_later true p ps n h = omega arith
gone_later false p ps n h = omega arith

shorter : (z : ℕ) (ps : List ℕ) → Contains ps z → length (without z ps) + 1 ≤ length ps
shorter z [] h = absurd (by_member z h)
shorter z (p ∷ ps) h =
    elim (member_cases z p ps h) [
      | inl e ↦ gone (p == z) p (without z ps) (length ps) (eq-eqb p z e) (no_longer z ps)
      | inr k ↦ gone_later (p == z) p (without z ps) (length ps) (shorter z ps k)
    ]

kept_here : (b : Bool) (p q : ℕ) (ps : List ℕ) → b ≡ false → p ≡ q → Contains (if b then ps else p ∷ ps) q
kept_here true p q ps e h = absurd (cc)
kept_here false p q ps e h = member q p ps (inl (sym h))

kept_later : (b : Bool) (p q : ℕ) (ps : List ℕ) → Contains ps q → Contains (if b then ps else p ∷ ps) q
kept_later true p q ps h = h
kept_later false p q ps h = member q p ps (inr h)

kept : (z q : ℕ) (ps : List ℕ) → (q ≡ z → ⊥) → Contains ps q → Contains (without z ps) q
kept z q [] h k = k
kept z q (p ∷ ps) h k =
    elim (member_cases q p ps k) [
      | inl e ↦ kept_here (p == z) p q (without z ps) (not_same p z (λ t. h (sym e ∙ t))) e
      | inr l ↦ kept_later (p == z) p q (without z ps) (kept z q ps h l)
    ]

-- all parties to which something is due
abbrev HoldsDue : (ℕ → ℤ) → List ℕ → Type 0
HoldsDue due ps = (p : ℕ) → (due p ≡ pos 0 → ⊥) → Contains ps p

-- what is left is held without the party that is settled
still_held : (due : ℕ → ℤ) (row : FlowRow) (z : ℕ) (ps : List ℕ) → IsTurn due row → due_after due row z ≡ pos 0 → HoldsDue due ps → HoldsDue (due_after due row) (without z ps)
still_held due row z ps h e held = λ p some.
    let apart : p ≡ z → ⊥ = λ same. some (ap (due_after due row) same ∙ e) in
    kept z p ps apart (by p some)
  where
    of_row : (p : ℕ) → (p ≡ row.from) ⊎ (p ≡ row.to) → Contains ps p
    of_row p (inl same) = held p (λ nothing. below_not (due row.from) h.payer.owes (ap due (sym same) ∙ nothing))
    of_row p (inr same) = held p (λ nothing. above_not (due row.to) h.payee.owed (ap due (sym same) ∙ nothing))

    by : (p : ℕ) → (due_after due row p ≡ pos 0 → ⊥) → Contains ps p
    by p some =
        by_test (Contains ps p) (row.from == p) (λ t. of_row p (inl (sym (eqb-true row.from p t))))
        (λ t. by_test (Contains ps p) (row.to == p) (λ u. of_row p (inr (sym (eqb-true row.to p u))))
        (λ u. held p (λ nothing. some (other_part (row.to == p) (row.from == p) row.amount (due p) u t ∙ nothing))))

one_less : (n m k : ℕ) → n ≤ m - 1 → m + 1 ≤ k → 1 ≤ m → n + 1 ≤ k - 1
one_less n m k h g l = omega arith

has_one : (p : ℕ) (ps : List ℕ) → Contains ps p → 1 ≤ length ps
has_one p [] h = absurd (by_member p h)
has_one p (q ∷ ps) h = omega arith

fewer : (due : ℕ → ℤ) (row : FlowRow) (rows : List FlowRow) (ps : List ℕ) (z y : ℕ) → IsTurn due row → due_after due row z ≡ pos 0 → HoldsDue due ps → Contains ps z → Contains ps y → (y ≡ z → ⊥) → length rows ≤ length (without z ps) - 1 → length (row ∷ rows) ≤ length ps - 1
fewer due row rows ps z y h e held here there apart rest =
    let less = shorter z ps here in
    let one = has_one y (without z ps) (kept z y ps apart there) in
    let all = one_less (length rows) (length (without z ps)) (length ps) rest less one in
    omega arith

pub few_turns : (due : ℕ → ℤ) (rows : List FlowRow) (ps : List ℕ) → PayInTurn due rows → HoldsDue due ps → length rows ≤ length ps - 1
few_turns due [] ps h held = omega arith
few_turns due (row ∷ rows) ps h held =
    let payer : Contains ps row.from = held row.from (below_not (due row.from) h.0.payer.owes) in
    let payee : Contains ps row.to = held row.to (above_not (due row.to) h.0.payee.owed) in
    elim (one_settled due row h.0) [
      | inl e ↦ fewer due row rows ps row.from row.to h.0 e held payer payee (λ same. parties_differ due row h.0 (sym same)) (few_turns (due_after due row) rows (without row.from ps) h.1 (still_held due row row.from ps h.0 e held))
      | inr e ↦ fewer due row rows ps row.to row.from h.0 e held payee payer (parties_differ due row h.0) (few_turns (due_after due row) rows (without row.to ps) h.1 (still_held due row row.to ps h.0 e held))
    ]

-- ---- rows that are counted

count_cons : {X : Type 0} (p : X → Bool) (x : X) (xs : List X) → count_by p (x ∷ xs) ≡ cond (p x) 1 0 + count_by p xs
count_cons p x xs = sum_by-cons (λ y. cond (p y) 1 0) x xs

counted : (b : Bool) → b ≡ true → cond b 1 0 ≡ (let n : ℕ = 1 in n)
counted true e = refl
counted false e = absurd (cc)

pub counted_in : {X : Type 0} (p : X → Bool) (xs : List X) (k : ℕ) (d : X) → k < length xs → p (get_or xs k d) ≡ true → 1 ≤ count_by p xs
counted_in p [] k d l h = absurd (omega arith)
counted_in p (x ∷ xs) zero d l h = omega (arith, count_cons p x xs, counted (p x) h)
counted_in p (x ∷ xs) (suc k) d l h = omega (arith, count_cons p x xs, counted_in p xs k d (omega arith) h)

-- ---- a later payment

at_most_claim : (m x y : ℤ) → m ≡ int_min (neg_ℤ x) y → m ≤ℤ y
at_most_claim m x y e = grind (arith, ints)

at_most_debt : (m x y : ℤ) → m ≡ int_min (neg_ℤ x) y → m ≤ℤ neg_ℤ x
at_most_debt m x y e = grind (arith, ints)

never_below : (a y m : ℤ) → a ≡ y -ℤ m → m ≤ℤ y → a <ℤ pos 0 → ⊥
never_below a y m e h k = omega (arith, ints)

never_above : (a x m : ℤ) → a ≡ x +ℤ m → m ≤ℤ neg_ℤ x → pos 0 <ℤ a → ⊥
never_above a x m e h k = omega (arith, ints)

-- who owes after a turn owed before it
owed_before : (due : ℕ → ℤ) (row : FlowRow) (p : ℕ) → IsTurn due row → due_after due row p <ℤ pos 0 → due p <ℤ pos 0
owed_before due row p h less =
    by_test (due p <ℤ pos 0) (row.from == p) (λ t. subst (λ (q : ℕ). due q <ℤ pos 0) (eqb-true row.from p t) h.payer.owes)
    (λ t. by_test (due p <ℤ pos 0) (row.to == p)
    (λ u. absurd (never_below (due_after due row row.to) (due row.to) row.amount (payee_after due row h) (at_most_claim row.amount (due row.from) (due row.to) h.lesser) (subst (λ (q : ℕ). due_after due row q <ℤ pos 0) (sym (eqb-true row.to p u)) less)))
    (λ u. subst (λ (x : ℤ). x <ℤ pos 0) (other_part (row.to == p) (row.from == p) row.amount (due p) u t) less))

-- and who is owed was owed
claimed_before : (due : ℕ → ℤ) (row : FlowRow) (p : ℕ) → IsTurn due row → pos 0 <ℤ due_after due row p → pos 0 <ℤ due p
claimed_before due row p h more =
    by_test (pos 0 <ℤ due p) (row.to == p) (λ u. subst (λ (q : ℕ). pos 0 <ℤ due q) (eqb-true row.to p u) h.payee.owed)
    (λ u. by_test (pos 0 <ℤ due p) (row.from == p)
    (λ t. absurd (never_above (due_after due row row.from) (due row.from) row.amount (payer_after due row h) (at_most_debt row.amount (due row.from) (due row.to) h.lesser) (subst (λ (q : ℕ). pos 0 <ℤ due_after due row q) (sym (eqb-true row.from p t)) more)))
    (λ t. subst (λ (x : ℤ). pos 0 <ℤ x) (other_part (row.to == p) (row.from == p) row.amount (due p) u t) more))

-- each payer owed at first, and each payee was owed
pub ends_due : (due : ℕ → ℤ) (rows : List FlowRow) (row : FlowRow) → PayInTurn due rows → Contains rows row → (due row.from <ℤ pos 0) × (pos 0 <ℤ due row.to)
ends_due due [] row h held = absurd (by_member row held)
ends_due due (first ∷ rows) row h held =
    elim (member_cases row first rows held) [
      | inl e ↦ subst (λ (r : FlowRow). (due r.from <ℤ pos 0) × (pos 0 <ℤ due r.to)) e (h.0.payer.owes, h.0.payee.owed)
      | inr later ↦
          let rest = ends_due (due_after due first) rows row h.1 later in
          (owed_before due first row.from h.0 rest.0, claimed_before due first row.to h.0 rest.1)
    ]

-- the first one settles one of its two parties, so none that follows has the same payer and the same payee
pub not_again : (due : ℕ → ℤ) (row next : FlowRow) (rows : List FlowRow) → PayInTurn due (row ∷ rows) → Contains rows next → (row.from ≡ next.from → ⊥) ⊎ (row.to ≡ next.to → ⊥)
not_again due row next rows h held =
    elim (one_settled due row h.0) [
      | inl e ↦ inl (λ same. (All-contains (IsNotOf row.from) rows next (silent (due_after due row) rows row.from h.1 e) held).0 (sym same))
      | inr e ↦ inr (λ same. (All-contains (IsNotOf row.to) rows next (silent (due_after due row) rows row.to h.1 e) held).1 (sym same))
    ]

-- ---- slots, where payers and payees come later

same_low : (p q r s : ℕ) → p ≤ r → q ≤ s → min r s ≤ min p q → min p q ≡ min r s
same_low p q r s h k l = omega arith

higher : (p q r s : ℕ) → (p ≡ q → ⊥) → p ≤ r → q ≤ s → min r s ≤ min p q → (p ≡ r → ⊥) ⊎ (q ≡ s → ⊥) → max p q < max r s
higher p q r s apart h k l (inl other) = omega arith
higher p q r s apart h k l (inr other) = omega arith

pub later_slot : (p q r s : ℕ) → (p ≡ q → ⊥) → p ≤ r → q ≤ s → (p ≡ r → ⊥) ⊎ (q ≡ s → ⊥) → (min p q < min r s) ⊎ ((min p q ≡ min r s) × (max p q < max r s))
later_slot p q r s apart h k other =
    elim (cases_lt (min p q) (min r s)) [
      | inl l ↦ inl l
      | inr l ↦ inr (same_low p q r s h k l, higher p q r s apart h k l other)
    ]
