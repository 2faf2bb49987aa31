-- Worked rows of version 2: EUR has 2 decimals, JPY none. A payment of 150 JPY is scaled, one of 150.5 is not, at the
-- `scale` that stands before it; and what is paid in JPY is a multiple of 100 units of the amounts.
use Rattle.std.proofs.Common.{◌≡◌, ◌-◌, ℕ, ℤ, pos, [], ◌∷◌, None, Some, refl, codes, arith}
use Rattle.std.proofs.lemmas.Int.{ints}
use Rattle.term_model.specs.Declarations.{Declarations, decimals_of, at_one_scale}
use Rattle.term_model.specs.declared.rules.Rule.TheVariants.{Scale as ScaleRule, Time}
use Rattle.term_model.specs.Terms.{Contract, Lit, Pay, Both, Scale}
use Rattle.term_model.specs.Flows.{Flow, amount_of, scale_of_contract}
use Rattle.term_model.specs.AssetScales.{scale_in_asset}
use Rattle.term_model.specs.Sites.{EachDay, Once, sites}
use Rattle.term_model.specs.Sorts.{is_sorted}
use Rattle.term_model.specs.Scales.{is_scaled}
use Rattle.term_model.specs.Smallness.{is_small}
use Rattle.term_model.specs.Bounds.{aligned_total, is_bounded}
use Rattle.term_model.specs.Acceptance.{AreFacts, FailsAt, IsAccepted, IsRefusal, Meets}
use Rattle.term_model.specs.LawsScales.{IsMultiple}
use Rattle.term_model.proofs.Trials.{first_failing-is}

-- portfolio 2; amounts 2; party A, B; asset EUR : 2, JPY : 0;
abbrev two_assets : Declarations
two_assets = record { version = 2; amounts = 2; origin = None; start = 0; parties = codes "A" ∷ codes "B" ∷ []; assets = record { 0 = codes "EUR"; 1 = 2 } ∷ record { 0 = codes "JPY"; 1 = 0 } ∷ []; labels = []; templates = [] }

-- both(scale(1.50, pay(EUR, A, B)), scale(yen, pay(JPY, B, A)))
abbrev exchange : ℤ → ℕ → Contract
exchange m s = Both (Scale (Lit (pos 150) 2) (Pay 0 0 1)) (Scale (Lit m s) (Pay 1 1 0))

abbrev eur_a_to_b : Flow
eur_a_to_b = record { from = 0; to = 1; asset = 0 }

abbrev jpy_b_to_a : Flow
jpy_b_to_a = record { from = 1; to = 0; asset = 1 }

whole_yen : Meets two_assets ScaleRule (exchange (pos 150) 0)
whole_yen = first_failing-is (is_scaled two_assets) (sites Once (exchange (pos 150) 0))

half_a_yen : FailsAt two_assets ScaleRule (exchange (pos 1505) 1) 4
half_a_yen = first_failing-is (is_scaled two_assets) (sites Once (exchange (pos 1505) 1))

-- under one scale it is
half_at_one_scale : Meets (at_one_scale two_assets) ScaleRule (exchange (pos 1505) 1)
half_at_one_scale = first_failing-is (is_scaled (at_one_scale two_assets)) (sites Once (exchange (pos 1505) 1))

-- each node can be timed from day 0 on
on_time : (m : ℤ) (s : ℕ) → Meets two_assets Time (exchange m s)
on_time m s = (
  tt,
  (
    ([], pos 0, refl, omega (arith, ints)),
    (
      ([], pos 0, refl, (pos 0, omega (arith, ints), tt, omega (arith, ints))),
      (
        tt,
        (
          ([], pos 0, refl, omega (arith, ints)),
          (
            ([], pos 0, refl, (pos 0, omega (arith, ints), tt, omega (arith, ints))),
            (([], pos 0, refl, ((pos 0, omega (arith, ints), tt, omega (arith, ints)), (pos 0, omega (arith, ints), tt, omega (arith, ints)))), tt),
          ),
        ),
      ),
    ),
  ),
)

whole_yen_is_accepted : IsAccepted two_assets (exchange (pos 150) 0)
whole_yen_is_accepted =
    let c = exchange (pos 150) 0 in
    record {
      sorts = first_failing-is (is_sorted two_assets) (sites Once c);
      times = on_time (pos 150) 0;
      scales = whole_yen;
      sizes = first_failing-is is_small (sites Once c);
      bounds = first_failing-is (is_bounded two_assets) (sites EachDay c);
    }

half_a_yen_is_refused : IsRefusal two_assets (exchange (pos 1505) 1) ScaleRule 4
half_a_yen_is_refused =
    (first_failing-is (is_sorted two_assets) (sites Once (exchange (pos 1505) 1)), on_time (pos 1505) 1, half_a_yen)

facts_of_exchange : AreFacts two_assets (exchange (pos 150) 0) (record { start = Some (pos 0); scale = 2; total = 15150; horizon = 1 })
facts_of_exchange =
    record {
      right_start = (((pos 0, omega (arith, ints), tt, omega (arith, ints)), (pos 0, omega (arith, ints), tt, omega (arith, ints))), λ u h. omega (arith, ints));
      right_scale = refl;
      right_total = refl;
      right_horizon = refl;
    }

scale_of_exchange : scale_of_contract two_assets (exchange (pos 150) 0) [] ≡ 2
scale_of_exchange = refl

scale_in_yen : scale_in_asset two_assets (exchange (pos 150) 0) [] 1 ≡ Some 0
scale_in_yen = refl

total_of_exchange : aligned_total two_assets (exchange (pos 150) 0) [] ≡ 15150
total_of_exchange = refl

euros_paid : amount_of two_assets (exchange (pos 150) 0) [] (pos 0) (pos 0) eur_a_to_b ≡ pos 150
euros_paid = refl

yen_paid : amount_of two_assets (exchange (pos 150) 0) [] (pos 0) (pos 0) jpy_b_to_a ≡ pos 15000
yen_paid = refl

whole_yen_paid : IsMultiple (amount_of two_assets (exchange (pos 150) 0) [] (pos 0) (pos 0) jpy_b_to_a) (two_assets.amounts - decimals_of two_assets 1)
whole_yen_paid = (pos 150, refl)
