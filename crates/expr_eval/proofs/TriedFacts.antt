-- The days of a test, one after another.
use Rattle.std.proofs.Common.{◌≡◌, ℕ, zero, suc, ◌≤◌, ◌<◌, ℤ, pos, ◌+ℤ◌, Bool, true, Some, None, Result, Ok, Err, List, if◌then◌else◌, refl, ap, sym, ◌∙◌, subst, inl, inr, arith, eq-or-lt_of_le}
use Rattle.term_model.specs.Declarations.{Declarations}
use Rattle.term_model.specs.declared.values.Value.{Value}
use Rattle.term_model.specs.declared.values.Missing.{Missing}
use Rattle.term_model.specs.Terms.{Expression}
use Rattle.term_model.specs.Environments.{Environment}
use Rattle.term_model.specs.Values.{truth}
use Rattle.expr_eval.specs.declared.scratch.Binding.{Binding}
use Rattle.expr_eval.specs.Runs.{Answer, run_of, untyped}
use Rattle.expr_eval.specs.Comparing.{truth_found}
use Rattle.expr_eval.specs.Trials.{DayOrMissing, ValueOrMissing, first_tried, or_next, tried_on}

stays_missing : (n i : ℕ) (a : ℕ → ValueOrMissing) (m : Missing) → i ≤ n → first_tried i a ≡ Err m → first_tried n a ≡ Err m
stays_missing zero i a m h e =
    let z : i ≡ zero = omega arith in
    subst (λ (j : ℕ). first_tried j a ≡ Err m) z e
stays_missing (suc n) i a m h e =
    elim (eq-or-lt_of_le h) [
      | inl z ↦ subst (λ (j : ℕ). first_tried j a ≡ Err m) z e
      | inr l ↦ ap (λ (t : DayOrMissing). or_next t n (a n)) (stays_missing n i a m (omega arith) e)
    ]

stays_found : (n i : ℕ) (a : ℕ → ValueOrMissing) (k : ℕ) → i ≤ n → first_tried i a ≡ Ok (Some k) → first_tried n a ≡ Ok (Some k)
stays_found zero i a k h e =
    let z : i ≡ zero = omega arith in
    subst (λ (j : ℕ). first_tried j a ≡ Ok (Some k)) z e
stays_found (suc n) i a k h e =
    elim (eq-or-lt_of_le h) [
      | inl z ↦ subst (λ (j : ℕ). first_tried j a ≡ Ok (Some k)) z e
      | inr l ↦ ap (λ (t : DayOrMissing). or_next t n (a n)) (stays_found n i a k (omega arith) e)
    ]

next_tried : (i : ℕ) (a : ℕ → ValueOrMissing) (r : ValueOrMissing) → first_tried i a ≡ Ok None → a i ≡ r → first_tried (suc i) a ≡ tried_on i r
next_tried i a r e h = ap (λ (t : DayOrMissing). or_next t i (a i)) e ∙ ap (tried_on i) h

-- a day on which something is missing ends it
pub tried_missing : (n i : ℕ) (a : ℕ → ValueOrMissing) (m : Missing) → i < n → first_tried i a ≡ Ok None → a i ≡ Err m → first_tried n a ≡ Err m
tried_missing n i a m h e is = stays_missing n (suc i) a m (omega arith) (next_tried i a (Err m) e is)

-- and so does one on which the test is true
pub tried_true : (n i : ℕ) (a : ℕ → ValueOrMissing) (v : Value) → i < n → first_tried i a ≡ Ok None → a i ≡ Ok v → truth v ≡ true → first_tried n a ≡ Ok (Some i)
tried_true n i a v h e is holds =
    stays_found n (suc i) a i (omega arith) (next_tried i a (Ok v) e is ∙ ap (λ (b : Bool). Ok (if b then Some i else None)) holds)

-- the same by what an evaluation answers on each day

missing_from : (r : Answer) (m : Missing) → truth_found r ≡ Err m → untyped r ≡ Err m
missing_from (Ok v) m h = cc
missing_from (Err n) m h = cc

record TruthHeld (r : Answer) (b : Bool) : Type 0 where
  pub value : Value
  pub is : untyped r ≡ Ok value
  pub holds : truth value ≡ b

truth_from : (r : Answer) (b : Bool) → truth_found r ≡ Ok b → TruthHeld r b
truth_from (Ok v) b h = record { value = v.value; is = refl; holds = cc }
truth_from (Err m) b h = absurd (cc)

-- the day i, which is f, lacks a place
pub trial_lacks : (d : Declarations) (e : Expression) (g : List Binding) (F : Environment) (from : ℤ) (n i : ℕ) (f : ℤ) (r : Result Bool Missing) (m : Missing) → i < n
    → first_tried i (λ k. untyped (run_of d e g F (from +ℤ pos k))) ≡ Ok None → f ≡ from +ℤ pos i → r ≡ truth_found (run_of d e g F f) → r ≡ Err m
    → first_tried n (λ k. untyped (run_of d e g F (from +ℤ pos k))) ≡ Err m
trial_lacks d e g F from n i f r m l before day is lacks =
    tried_missing n i (λ k. untyped (run_of d e g F (from +ℤ pos k))) m l before (missing_from (run_of d e g F (from +ℤ pos i)) m (sym (ap (λ (t : ℤ). truth_found (run_of d e g F t)) day) ∙ sym is ∙ lacks))

-- or the test is true on it
pub trial_holds : (d : Declarations) (e : Expression) (g : List Binding) (F : Environment) (from : ℤ) (n i : ℕ) (f : ℤ) (r : Result Bool Missing) (b : Bool) → i < n
    → first_tried i (λ k. untyped (run_of d e g F (from +ℤ pos k))) ≡ Ok None → f ≡ from +ℤ pos i → r ≡ truth_found (run_of d e g F f) → r ≡ Ok b → b ≡ true
    → first_tried n (λ k. untyped (run_of d e g F (from +ℤ pos k))) ≡ Ok (Some i)
trial_holds d e g F from n i f r b l before day is found holds =
    let v = truth_from (run_of d e g F (from +ℤ pos i)) b (sym (ap (λ (t : ℤ). truth_found (run_of d e g F t)) day) ∙ sym is ∙ found) in
    tried_true n i (λ k. untyped (run_of d e g F (from +ℤ pos k))) v.value l before v.is (v.holds ∙ holds)

-- answers that are the same on each day have the same first day
pub first_same : (n : ℕ) (a b : ℕ → ValueOrMissing) → ((i : ℕ) → a i ≡ b i) → first_tried n a ≡ first_tried n b
first_same zero a b h = refl
first_same (suc n) a b h =
    ap (λ (t : DayOrMissing). or_next t n (a n)) (first_same n a b h) ∙ ap (or_next (first_tried n b) n) (h n)
