-- What one payment comes to at a slot.
use Rattle.std.proofs.Common.{◌≡◌, ℕ, ℤ, pos, negsuc, ◌-ℤ◌, ◌*ℤ◌, neg_ℤ, ◌<ℤ◌, ◌≤ℤ◌, ◌≤◌, ◌<◌, min, max, Bool, true, false, ◌&&◌, ◌||◌, not, ◌==◌, nat_lt, int_lt, if◌then◌else◌, refl, ap, sym, ◌∙◌, inl, inr, [], ◌∷◌, arith}
use Rattle.std.proofs.Math.IntN.{*ℤ-zero, *ℤ-one, one, +ℤ_idr}
use Rattle.std.specs.Ordering.{int_eq}
use Rattle.std.proofs.lemmas.Int.{ints}
use Rattle.std.proofs.lemmas.Bool.Decides.{nat_tests, Decides-int_eq, Decides-like, same_from_decides}
use Rattle.std.proofs.lemmas.Bool.{cases_lt}
use Rattle.term_model.specs.Flows.{Flow, unit_flow, on_day_zero}
use Rattle.term_model.proofs.FlowFacts.{mul-neg}
use Rattle.flow_eval.specs.declared.flow_table.Slot.{Slot}
use Rattle.flow_eval.specs.declared.payments.Payment.{Payment}
use Rattle.flow_eval.specs.declared.payments.Transfer.{Transfer}
use Rattle.flow_eval.specs.Payments.{paid, payment_on}
use Rattle.flow_eval.proofs.SumFacts.{share, sum_at}

-- from the lower party to the higher one
abbrev pub flow_at : Slot → Flow
flow_at s = record { from = s.lower; to = s.higher; asset = s.asset }

pub same_day : (x f : ℤ) → int_eq (x -ℤ f) (pos 0) ≡ int_eq x f
same_day x f =
    same_from_decides {P = x ≡ f} (int_eq (x -ℤ f) (pos 0)) (int_eq x f) (Decides-like (int_eq (x -ℤ f) (pos 0)) (λ (h : x -ℤ f ≡ pos 0). day_is x f h) (λ (h : x ≡ f). no_days x f h) (Decides-int_eq (x -ℤ f) (pos 0))) (Decides-int_eq x f)
  where
    day_is : (x f : ℤ) → x -ℤ f ≡ pos 0 → x ≡ f
    day_is x f h = omega (arith, ints)

    no_days : (x f : ℤ) → x ≡ f → x -ℤ f ≡ pos 0
    no_days x f h = omega (arith, ints)

pub same_number : (a b : ℕ) → (a == b) ≡ (b == a)
same_number a b = grind (arith, nat_tests)

pub upward : (p q l h : ℕ) → p < q → l < h → ((l == min p q) && (h == max p q)) ≡ ((p == l) && (q == h))
upward p q l h up pair = grind (arith, nat_tests)

pub not_back : (p q l h : ℕ) → p < q → l < h → ((p == h) && (q == l)) ≡ false
not_back p q l h up pair = grind (arith, nat_tests)

pub downward : (p q l h : ℕ) → q < p → l < h → ((l == min p q) && (h == max p q)) ≡ ((p == h) && (q == l))
downward p q l h back pair = grind (arith, nat_tests)

pub not_forth : (p q l h : ℕ) → q < p → l < h → ((p == l) && (q == h)) ≡ false
not_forth p q l h back pair = grind (arith, nat_tests)

pub times_none : (m : ℤ) → pos 0 ≡ m *ℤ pos 0
times_none m = sym (*ℤ-zero m)

pub times_one : (m : ℤ) → m *ℤ pos 1 ≡ m
unfolding one
times_one m = *ℤ-one m

pub times_minus_one : (m : ℤ) → neg_ℤ m ≡ m *ℤ neg_ℤ (pos 1)
times_minus_one m = sym (mul-neg m (pos 1) ∙ ap neg_ℤ (times_one m))

pub forth : (day asset both : Bool) (m : ℤ) → (if day && (asset && both) then m else pos 0) ≡ m *ℤ (if day then (if asset && true then (if both then pos 1 else pos 0) else pos 0) else pos 0)
forth true true true m = sym (times_one m)
forth true true false m = times_none m
forth true false both m = times_none m
forth false asset both m = times_none m

pub back : (day asset both : Bool) (m : ℤ) → (if day && (asset && both) then neg_ℤ m else pos 0) ≡ m *ℤ (if day then (if asset && true then (if both then neg_ℤ (pos 1) else pos 0) else pos 0) else pos 0)
back true true true m = times_minus_one m
back true true false m = times_none m
back true false both m = times_none m
back false asset both m = times_none m

-- a payment that goes from the lower party to the higher one
pub share_forth : (day day' asset asset' pair up same ours theirs : Bool) (m : ℤ) → day' ≡ day → asset' ≡ asset → pair ≡ ours → up ≡ true → same ≡ false → theirs ≡ false
    → (if day && (asset && pair) then (if up then m else neg_ℤ m) else pos 0) ≡ m *ℤ (if day' then (if asset' && not same then (if ours then pos 1 else (if theirs then neg_ℤ (pos 1) else pos 0)) else pos 0) else pos 0)
share_forth day day' asset asset' pair up same ours theirs m e f g h i j = rw (e, f, g, h, i, j) (forth day asset ours m)

-- one that goes back
pub share_back : (day day' asset asset' pair up same ours theirs : Bool) (m : ℤ) → day' ≡ day → asset' ≡ asset → pair ≡ theirs → up ≡ false → same ≡ false → ours ≡ false
    → (if day && (asset && pair) then (if up then m else neg_ℤ m) else pos 0) ≡ m *ℤ (if day' then (if asset' && not same then (if ours then pos 1 else (if theirs then neg_ℤ (pos 1) else pos 0)) else pos 0) else pos 0)
share_back day day' asset asset' pair up same ours theirs m e f g h i j = rw (e, f, g, h, i, j) (back day asset theirs m)

pub by_order : (P : Type 0) (p q : ℕ) → (p == q) ≡ false → (p < q → P) → (q < p → P) → P
by_order P p q apart f g = elim (cases_lt p q) [ inl h ↦ f h | inr h ↦ g (above p q apart h) ]
  where
    above : (p q : ℕ) → (p == q) ≡ false → q ≤ p → q < p
    above p q apart h = grind (arith, nat_tests)

pub lt_true : (p q : ℕ) → p < q → nat_lt p q ≡ true
lt_true p q h = grind (arith, nat_tests)

pub lt_false : (p q : ℕ) → q < p → nat_lt p q ≡ false
lt_false p q h = grind (arith, nat_tests)

-- what a payment adds at a slot is what the transfer is there, times its amount
pub share-payment_on : (s : Slot) (f : ℤ) (t : Transfer) (m : ℤ) → s.lower < s.higher → (t.from == t.to) ≡ false
    → share s (payment_on f t m) ≡ m *ℤ on_day_zero (s.day -ℤ f) (unit_flow t.asset t.from t.to (flow_at s))
share-payment_on s f t m pair apart =
    by_order (share s (payment_on f t m) ≡ m *ℤ on_day_zero (s.day -ℤ f) (unit_flow t.asset t.from t.to (flow_at s))) t.from t.to apart
    (λ up. share_forth (int_eq s.day f) (int_eq (s.day -ℤ f) (pos 0)) (s.asset == t.asset) (t.asset == s.asset) ((s.lower == min t.from t.to) && (s.higher == max t.from t.to)) (nat_lt t.from t.to) (t.from == t.to) ((t.from == s.lower) && (t.to == s.higher)) ((t.from == s.higher) && (t.to == s.lower)) m
    (same_day s.day f) (same_number t.asset s.asset) (upward t.from t.to s.lower s.higher up pair) (lt_true t.from t.to up) apart (not_back t.from t.to s.lower s.higher up pair))
    (λ down. share_back (int_eq s.day f) (int_eq (s.day -ℤ f) (pos 0)) (s.asset == t.asset) (t.asset == s.asset) ((s.lower == min t.from t.to) && (s.higher == max t.from t.to)) (nat_lt t.from t.to) (t.from == t.to) ((t.from == s.lower) && (t.to == s.higher)) ((t.from == s.higher) && (t.to == s.lower)) m
    (same_day s.day f) (same_number t.asset s.asset) (downward t.from t.to s.lower s.higher down pair) (lt_false t.from t.to down) apart (not_forth t.from t.to s.lower s.higher down pair))

-- nothing is paid on an earlier day
pub early : (m n u : ℤ) → n <ℤ pos 0 → pos 0 ≡ m *ℤ on_day_zero n u
early m (pos n) u h = absurd (omega (arith, ints))
early m (negsuc n) u h = times_none m

pub too_late : (last f day : ℤ) → int_lt last f ≡ true → day ≤ℤ last → (day -ℤ f) <ℤ pos 0
too_late last f day late due = grind (arith, ints)

-- nothing is paid to oneself
pub to_oneself : (day asset same : Bool) (m x : ℤ) → same ≡ true → pos 0 ≡ m *ℤ (if day then (if asset && not same then x else pos 0) else pos 0)
to_oneself true true true m x h = times_none m
to_oneself true false true m x h = times_none m
to_oneself false asset true m x h = times_none m
to_oneself day asset false m x h = absurd (cc)

pub paid_by : (late same : Bool) (s : Slot) (p : Payment) (x : ℤ) → (late ≡ true → pos 0 ≡ x) → (same ≡ true → pos 0 ≡ x) → (same ≡ false → share s p ≡ x) → sum_at s (if late || same then [] else p ∷ []) ≡ x
paid_by true same s p x f g h = f refl
paid_by false true s p x f g h = g refl
paid_by false false s p x f g h = +ℤ_idr (share s p) ∙ h refl

pub sum_at-paid : (s : Slot) (last f : ℤ) (t : Transfer) (m : ℤ) → s.lower < s.higher → s.day ≤ℤ last → sum_at s (paid last f t m) ≡ m *ℤ on_day_zero (s.day -ℤ f) (unit_flow t.asset t.from t.to (flow_at s))
sum_at-paid s last f t m pair due =
    paid_by (int_lt last f) (t.from == t.to) s (payment_on f t m) (m *ℤ on_day_zero (s.day -ℤ f) (unit_flow t.asset t.from t.to (flow_at s)))
    (λ late. early m (s.day -ℤ f) (unit_flow t.asset t.from t.to (flow_at s)) (too_late last f s.day late due))
    (λ same. to_oneself (int_eq (s.day -ℤ f) (pos 0)) (t.asset == s.asset) (t.from == t.to) m _ same)
    (λ apart. share-payment_on s f t m pair apart)
