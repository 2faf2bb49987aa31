-- Worked rows of sums of days: a payment after 30 days and the days of a template T.
use Rattle.std.proofs.Common.{◌≡◌, ℕ, pos, [], ◌∷◌, None, refl, codes, arith}
use Rattle.std.proofs.lemmas.Int.{ints}
use Rattle.term_model.specs.Declarations.{Declarations}
use Rattle.term_model.specs.DayCounts.{Num as Count, Sum}
use Rattle.term_model.specs.declared.rules.Rule.TheVariants.{Size, Time}
use Rattle.term_model.specs.Terms.{Contract, Lit, Zero, Scale, After}
use Rattle.term_model.specs.Flows.{amount_of}
use Rattle.term_model.specs.Horizons.{horizon_of}
use Rattle.term_model.specs.Instances.{declared_numbers, instance}
use Rattle.term_model.specs.Sites.{Once, sites}
use Rattle.term_model.specs.Sorts.{is_sorted}
use Rattle.term_model.specs.Times.{lowered_by}
use Rattle.term_model.specs.Scales.{is_scaled}
use Rattle.term_model.specs.Smallness.{is_small}
use Rattle.term_model.specs.Acceptance.{IsRefusal, Meets}
use Rattle.term_model.proofs.Trials.{first_failing-is}
use Rattle.term_model.proofs.RowsSample.{b_to_a, pay_ba}

-- portfolio 2; amounts 2; party A, B; asset EUR : 2; template T = days;
abbrev with_template : ℕ → Declarations
with_template days =
    record { version = 2; amounts = 2; origin = None; start = 0; parties = codes "A" ∷ codes "B" ∷ []; assets = record { 0 = codes "EUR"; 1 = 2 } ∷ []; labels = []; templates = record { 0 = codes "T"; 1 = days } ∷ [] }

-- after(30 + T, scale(105.00, pay(EUR, B, A)))
abbrev repayment : Contract
repayment = After (Sum 30 (0 ∷ [])) (Scale (Lit (pos 10500) 2) pay_ba)

abbrev repayment_after : ℕ → Contract
repayment_after n = After (Count n) (Scale (Lit (pos 10500) 2) pay_ba)

at_60_days : instance (declared_numbers (with_template 60)) repayment ≡ repayment_after 90
at_60_days = refl

paid_on_day_90 : amount_of (with_template 60) (instance (60 ∷ []) repayment) [] (pos 0) (pos 90) b_to_a ≡ pos 10500
paid_on_day_90 = refl

not_paid_on_day_89 : amount_of (with_template 60) (instance (60 ∷ []) repayment) [] (pos 0) (pos 89) b_to_a ≡ pos 0
not_paid_on_day_89 = refl

a_day_less : instance (59 ∷ []) repayment ≡ repayment_after 89
a_day_less = refl

horizon_at_60_days : horizon_of (instance (60 ∷ []) repayment) ≡ 91
horizon_at_60_days = refl

-- a name counts as often as it stands there: after(1 + T + T + U, zero)
repeated : instance (60 ∷ 7 ∷ []) (After (Sum 1 (0 ∷ 0 ∷ 1 ∷ [])) Zero) ≡ After (Count 128) Zero
repeated = refl

-- at 100,000 days the day count of the instance is too great
on_time : (n : ℕ) → Meets (with_template 100_000) Time (repayment_after n)
on_time n =
    let later = lowered_by n [] in (
      tt,
      (
        (later, pos 0, ([], refl, refl), omega (arith, ints)),
        (
          (later, pos 0, ([], refl, refl), (pos 0, omega (arith, ints), tt, omega (arith, ints))),
          (([], pos 0, refl, (pos 0, omega (arith, ints), tt, omega (arith, ints))), tt),
        ),
      ),
    )

too_far : IsRefusal (with_template 100_000) (instance (declared_numbers (with_template 100_000)) repayment) Size 0
too_far = (
  first_failing-is (is_sorted (with_template 100_000)) (sites Once (repayment_after 100_030)),
  on_time 100_030,
  first_failing-is (is_scaled (with_template 100_000)) (sites Once (repayment_after 100_030)),
  first_failing-is is_small (sites Once (repayment_after 100_030)),
)
