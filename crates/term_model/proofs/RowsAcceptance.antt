-- Worked rows of acceptance: a loan is accepted, with its facts; starts of contracts, and a refusal.
use Rattle.std.proofs.Common.{pos, neg_ℤ, [], Some, None, true, refl, inl, inr, arith}
use Rattle.std.proofs.lemmas.Int.{ints}
use Rattle.decimal.specs.declared.Mode.TheVariants.{HalfEven}
use Rattle.term_model.specs.declared.terms.CmpOp.TheVariants.{Greater}
use Rattle.term_model.specs.DayCounts.{Num as Count}
use Rattle.term_model.specs.declared.rules.Rule.TheVariants.{Sort, Time}
use Rattle.term_model.specs.Terms.{Lit, Yes, Var, Obs, Cmp, Round, Zero, Scale, After, Let, Within}
use Rattle.term_model.specs.Sites.{Once, EachDay, sites}
use Rattle.term_model.specs.Sorts.{is_sorted}
use Rattle.term_model.specs.Times.{IsStart, lowered_by}
use Rattle.term_model.specs.Scales.{is_scaled}
use Rattle.term_model.specs.Smallness.{is_small}
use Rattle.term_model.specs.Bounds.{is_bounded}
use Rattle.term_model.specs.Acceptance.{IsAccepted, IsRefusal, FailsAt, AreFacts}
use Rattle.term_model.proofs.Trials.{first_failing-is}
use Rattle.term_model.proofs.RowsSample.{with_fx, pay_ab, loan}

loan_is_accepted : IsAccepted with_fx loan
loan_is_accepted =
    let later = lowered_by 90 [] in
    record {
      sorts = first_failing-is (is_sorted with_fx) (sites Once loan);
      times = (
        tt,
        (
          ([], pos 0, refl, omega (arith, ints)),
          (
            ([], pos 0, refl, (pos 0, omega (arith, ints), tt, omega (arith, ints))),
            (
              tt,
              (
                (later, pos 0, ([], refl, refl), omega (arith, ints)),
                (
                  (later, pos 0, ([], refl, refl), (pos 0, omega (arith, ints), tt, omega (arith, ints))),
                  (
                    ([], pos 0, refl, (pos 0, omega (arith, ints), tt, omega (arith, ints))),
                    (([], pos 0, refl, ((pos 0, omega (arith, ints), tt, omega (arith, ints)), (pos 0, omega (arith, ints), tt, omega (arith, ints)))), tt),
                  ),
                ),
              ),
            ),
          ),
        ),
      );
      scales = first_failing-is (is_scaled with_fx) (sites Once loan);
      sizes = first_failing-is is_small (sites Once loan);
      bounds = first_failing-is (is_bounded with_fx) (sites EachDay loan);
    }

loan_facts : AreFacts with_fx loan (record { start = Some (pos 0); scale = 2; total = 20500; horizon = 91 })
loan_facts =
    record {
      right_start = (((pos 0, omega (arith, ints), tt, omega (arith, ints)), (pos 0, omega (arith, ints), tt, omega (arith, ints))), λ u h. omega (arith, ints));
      right_scale = refl;
      right_total = refl;
      right_horizon = refl;
    }

nothing_starts_always : IsStart Zero None
nothing_starts_always = λ t. tt

-- let x = obs(FX, 9) in zero
unused_starts_always : IsStart (Let (Obs 0 (pos 9)) Zero) None
unused_starts_always = λ t. (pos 9, omega (arith, ints), tt)

-- after(4, let x = obs(FX, -4) in scale(round(half_even, 2, x), AB)): the `let` and the `scale` stand on day 4
starts_on_day_4 : IsStart (After (Count 4) (Let (Obs 0 (neg_ℤ (pos 4))) (Scale (Round HalfEven 2 (Var 0)) pay_ab))) (Some (pos 4))
starts_on_day_4 = (
  (neg_ℤ (pos 4), omega (arith, ints), (pos 0, omega (arith, ints), omega (arith, ints), omega (arith, ints))),
  λ u h. omega (arith, ints),
)

-- if (obs(FX, 1) > 1.0000) within 2 then zero else zero
test_of_tomorrow : FailsAt with_fx Time (Within (Cmp Greater (Obs 0 (pos 1)) (Lit (pos 10000) 4)) (Count 2) Zero Zero) 0
test_of_tomorrow =
    inr (tt, inr (tt, inr (tt, inr (([], pos 0, refl, tt), inr ((lowered_by 2 [], pos 0, ([], refl, refl), tt), inl ((λ h. omega (arith, ints)), refl))))))

not_a_number : IsRefusal with_fx (Scale (Yes true) pay_ab) Sort 0
not_a_number = first_failing-is (is_sorted with_fx) (sites Once (Scale (Yes true) pay_ab))
