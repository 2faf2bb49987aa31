-- The fixings of the sample: FX is fixed on the days 0 to 99.
use Rattle.std.proofs.Common.{◌≡◌, ◌∙◌, ℕ, zero, suc, ◌+◌, ◌%◌, ◌≤◌, ◌<◌, ℤ, pos, ◌≤ℤ◌, Bool, true, false, if◌then◌else◌, inl, inr, [], Option, Some, None, refl, ap, sym, subst, arith}
use Rattle.std.specs.Ordering.{int_eq}
use Rattle.std.specs.Prelude.{is_some, Result, Ok, Err, OnOk}
use Rattle.std.proofs.lemmas.Int.{ints}
use Rattle.std.proofs.lemmas.Bool.{cases_lt}
use Rattle.std.proofs.lemmas.Bool.Decides.{Decides-int_eq}
use Rattle.term_model.specs.declared.values.Value.{Value}
use Rattle.term_model.specs.declared.values.Value.TheVariants.{Num as Amount}
use Rattle.term_model.specs.Declarations.{Declarations}
use Rattle.term_model.specs.Environments.{Environment, Extends, IsAdmitted, held, same_place}
use Rattle.term_model.specs.Reads.{is_fixed}
use Rattle.fixing_files.specs.Runs.{AddsPair}
use Rattle.sample.specs.Sample.{HoldSame, fixings_before, rate_on, sample_factor, sample_fixings}
use Rattle.sample.proofs.ReadFacts.{AreDaysFixed}

level : (n day : ℕ) → n ≤ day → day < suc n → n ≡ day
level n day a b = omega arith

same_number : (n m : ℕ) → pos n ≡ pos m → n ≡ m
same_number n m e = omega (arith, ints)

one_on : (n : ℕ) → n + 1 ≡ suc n
one_on n = omega arith

apart : (n m : ℕ) → (n ≡ m → ⊥) → int_eq (pos n) (pos m) ≡ true → ⊥
apart n m h e = h (same_number n m ((Decides-int_eq (pos n) (pos m)).0 e))

passed : (b : Bool) (v o : Option Value) → (b ≡ true → ⊥) → (if b then v else o) ≡ o
passed true v o h = absurd (h refl)
passed false v o h = refl

taken : (b : Bool) (v o : Option Value) → b ≡ true → (if b then v else o) ≡ v
taken true v o h = refl
taken false v o h = absurd cc

-- a later day is not fixed yet
pub not_yet : (n m : ℕ) → n ≤ m → held (fixings_before n) (rate_on (pos m)) ≡ None
unfolding fixings_before
not_yet zero m h = refl
not_yet (suc n) m h =
    passed (int_eq (pos n) (pos m)) (Some (Amount (pos (sample_factor n)))) (held (fixings_before n) (rate_on (pos m))) (apart n m (λ e. omega arith)) ∙ not_yet n m (omega arith)

-- a day before is
pub fixed_before : (n day : ℕ) → day < n → is_fixed (fixings_before n) (rate_on (pos day)) ≡ true
unfolding fixings_before
fixed_before zero day h = absurd (omega arith)
fixed_before (suc n) day h =
    elim (cases_lt day n) [
      | inl less ↦ ap (λ (o : Option Value). is_some o) (passed (int_eq (pos n) (pos day)) (Some (Amount (pos (sample_factor n)))) (held (fixings_before n) (rate_on (pos day))) (apart n day (λ e. omega arith))) ∙ fixed_before n day less
      | inr more ↦ ap (λ (o : Option Value). is_some o) (taken (int_eq (pos n) (pos day)) (Some (Amount (pos (sample_factor n)))) (held (fixings_before n) (rate_on (pos day))) ((Decides-int_eq (pos n) (pos day)).1 (ap (λ (k : ℕ). pos k) (level n day more h))))
    ]

pub added_day : (before after : Environment) (day : ℕ) (v : Value) → HoldSame before (fixings_before day) → v ≡ Amount (pos (sample_factor day)) → AddsPair before after (rate_on (pos day)) v → HoldSame after (fixings_before (suc day))
unfolding fixings_before
added_day before after day v same is adds = λ q.
    adds q
    ∙ ap (λ (o : Option Value). if same_place (rate_on (pos day)) q then Some v else o) (same q)
    ∙ ap (λ (w : Value). if same_place (rate_on (pos day)) q then Some w else held (fixings_before day) q) is

pub after_put : {A E : Type 0} (r : Result A E) (before after : Environment) (day : ℕ) (today : ℤ) (m : ℤ) → HoldSame before (fixings_before day) → today ≡ pos day → m ≡ pos (sample_factor day) → OnOk r (AddsPair before after (rate_on today) (Amount m)) → OnOk r (HoldSame after (fixings_before (day + 1)))
after_put (Ok x) before after day today m same e f h =
    let adds = subst (λ (t : ℤ). AddsPair before after (rate_on t) (Amount m)) e h in
    subst (λ (n : ℕ). HoldSame after (fixings_before n)) (sym (one_on day)) (added_day before after day (Amount m) same (ap (λ (x : ℤ). Amount x) f) adds)
after_put (Err x) before after day today m same e f h = tt

pub none_at_first : HoldSame [] (fixings_before 0)
unfolding fixings_before
none_at_first = λ q. refl

pub no_value : (d : Declarations) → IsAdmitted d []
no_value d = λ q v h. absurd (let e : None ≡ Some v = h in cc)

low : (x : ℕ) → pos 5_000 ≤ℤ pos (8_000 + x)
low x = omega (arith, ints)

high : (x : ℕ) → pos (8_000 + x % 8_001) ≤ℤ pos 20_000
high x = omega (arith, ints)

-- ---- fixings that hold the same

pub same_extends : (fixings other : Environment) → HoldSame fixings other → Extends fixings other
same_extends fixings other same = λ q v h. sym (same q) ∙ h

pub days_fixed : (fixings : Environment) → HoldSame fixings sample_fixings → AreDaysFixed fixings
days_fixed fixings same = λ day lt. ap (λ (o : Option Value). is_some o) (same (rate_on (pos day))) ∙ fixed_before 100 day lt
