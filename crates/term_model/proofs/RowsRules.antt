-- Worked rows of the rules: which node is at fault, the start, the total and the work.
use Rattle.std.proofs.Common.{true, ◌≡◌, ℕ, ℤ, pos, neg_ℤ, ◌≤ℤ◌, ◌-ℤ◌, ◌+◌, ◌^◌, List, [], ◌∷◌, Some, None, refl, subst, ap, ◌∙◌, inl, inr, arith, slice_get}
use Rattle.std.proofs.lemmas.Int.{ints}
use Rattle.decimal.specs.Rounding.{divided}
use Rattle.decimal.specs.declared.Mode.TheVariants.{HalfEven}
use Rattle.term_model.specs.declared.label.Label.TheVariants.{Number}
use Rattle.term_model.specs.declared.terms.NumOp.TheVariants.{Plus}
use Rattle.term_model.specs.declared.terms.CmpOp.TheVariants.{Greater}
use Rattle.term_model.specs.DayCounts.{Num as Count}
use Rattle.term_model.specs.declared.rules.Rule.TheVariants.{Time}
use Rattle.term_model.specs.Terms.{Lit, Yes, Var, Obs, Num, Cmp, Div, Round, Acc, Contract, Zero, Scale, After, Within}
use Rattle.term_model.specs.Sizes.{work_of_contract}
use Rattle.term_model.specs.Sites.{Later, Naming, OfContract, Once, EachDay, sites}
use Rattle.term_model.proofs.Trials.{first_failing}
use Rattle.term_model.specs.Sorts.{is_sorted}
use Rattle.term_model.specs.Times.{PartIsTimed, AtMost, IsStart, lowered_by}
use Rattle.term_model.specs.Scales.{is_scaled}
use Rattle.term_model.specs.Smallness.{is_small}
use Rattle.term_model.specs.Bounds.{is_bounded, aligned_total}
use Rattle.term_model.specs.Acceptance.{FailsAt}
use Rattle.term_model.proofs.RowsSample.{with_labels, with_fx, pay_ab, average, later_rate, loan}

-- scale(true, AB)
not_sorted : first_failing (is_sorted with_fx) (sites Once (Scale (Yes true) pay_ab)) ≡ Some 0
not_sorted = refl

-- scale(obs(FX, 1), AB)
too_late : FailsAt with_fx Time (Scale (Obs 0 (pos 1)) pay_ab) 0
too_late = inr (tt, inr (([], pos 0, refl, omega (arith, ints)), inl ((λ h. omega (arith, ints)), refl)))

-- a `let` over a future observable starts with it
starts_on_day_30 : IsStart (later_rate 30) (Some (pos 30))
starts_on_day_30 = (
  (pos 30, omega (arith, ints), (pos 0, omega (arith, ints), omega (arith, ints), omega (arith, ints))),
  λ u h. omega (arith, ints),
)

fails : PartIsTimed (Later 29 ∷ Naming (Round HalfEven 2 (Obs 0 (pos 30))) ∷ []) (OfContract (Scale (Var 0) pay_ab)) → ⊥
fails p =
    let allowed = p.2 in
    let grown = allowed.2 in
    let known : AtMost (slice_get p.0 0) p.3.0 = p.3.2 in
    let same : p.0 ≡ lowered_by 29 (grown.0 ∷ grown.1) = allowed.1 ∙ ap (λ (h : List ℤ). lowered_by 29 h) grown.2 in
    let late : (grown.0 -ℤ pos 29) ≤ℤ p.3.0 = subst (λ (h : List ℤ). AtMost (slice_get h 0) p.3.0) same known in
    let bound : pos 30 ≤ℤ grown.0 = grown.3 in
    let today : p.3.0 ≤ℤ pos 0 = p.3.3 in
    omega (arith, ints)

-- one day too early, the `scale` is at fault
a_day_too_early : FailsAt with_fx Time (later_rate 29) 4
a_day_too_early =
    inr (tt, inr (tt, inr (tt, inr ((lowered_by 29 (pos 30 ∷ []), pos 0, ((pos 30 ∷ []), refl, (pos 30, [], refl, omega (arith, ints), refl)), omega (arith, ints)), inl (fails, refl)))))

-- after(1, scale(obs(FX, 0), AB)), at 2 decimals
too_fine : first_failing (is_scaled with_fx) (sites Once (After (Count 1) (Scale (Obs 0 (pos 0)) pay_ab))) ≡ Some 1
too_fine = refl

-- scale(div(half_even, 2, 1, obs(R, 0)), AB), for R of 1 decimal from -1.0 to 1.0 and from 0.1 to 1.0
abbrev quotient_paid : Contract
quotient_paid = Scale (Div HalfEven 2 (Lit (pos 1) 0) (Obs 0 (pos 0))) pay_ab

may_divide_by_zero : first_failing (is_bounded (with_labels (Number 1 (neg_ℤ (pos 10)) (pos 10)))) (sites EachDay quotient_paid) ≡ Some 1
unfolding divided
may_divide_by_zero = refl

divides : first_failing (is_bounded (with_labels (Number 1 (pos 1) (pos 10)))) (sites EachDay quotient_paid) ≡ None
unfolding divided
divides = refl

total_of_quotient : aligned_total (with_labels (Number 1 (pos 1) (pos 10))) quotient_paid [] ≡ 1000
unfolding divided
total_of_quotient = refl

total_of_average : aligned_total with_fx average [] ≡ 200
unfolding divided
total_of_average = refl

total_of_loan : aligned_total with_fx loan [] ≡ 20500
total_of_loan = refl

-- if (acc(x, (x + x), n, 1) > 0) within 0 then zero else zero: 2^122 is a mantissa, and 2^123 is too great; the body,
-- node 3, is at fault
abbrev doubled : ℕ → Contract
doubled n = Within (Cmp Greater (Acc (Num Plus (Var 0) (Var 0)) n (Lit (pos 1) 0)) (Lit (pos 0) 0)) (Count 0) Zero Zero

doubles : first_failing (is_bounded with_fx) (sites EachDay (doubled 122)) ≡ None
doubles = refl

doubles_once_too_often : first_failing (is_bounded with_fx) (sites EachDay (doubled 123)) ≡ Some 3
doubles_once_too_often = refl

-- scale(L, AB) with L of 10^25 and a cent
too_much : first_failing (is_bounded with_fx) (sites EachDay (Scale (Lit (pos (10 ^ 27 + 1)) 2) pay_ab)) ≡ Some 0
too_much = refl

-- after(n, after(1, AB))
too_far : first_failing is_small (sites Once (After (Count 100_000) (After (Count 1) pay_ab))) ≡ Some 0
too_far = refl

far : first_failing is_small (sites Once (After (Count 99_999) (After (Count 1) pay_ab))) ≡ None
far = refl

-- if (acc(x, (x + 0), 100, 0) > 0) within n then zero else zero
abbrev laborious : ℕ → Contract
laborious n = Within (Cmp Greater (Acc (Num Plus (Var 0) (Lit (pos 0) 0)) 100 (Lit (pos 0) 0)) (Lit (pos 0) 0)) (Count n) Zero Zero

much_work : work_of_contract (laborious 30_000) ≡ 9_120_304
much_work = refl

too_much_work : first_failing is_small (sites Once (laborious 99_999)) ≡ Some 0
too_much_work = refl

-- the body of an accumulator of 0 days may divide by 0, but has a sort
no_bound_on_no_steps : first_failing (is_bounded with_fx) (sites EachDay (Scale (Acc (Div HalfEven 2 (Var 0) (Lit (pos 0) 0)) 0 (Lit (pos 700) 2)) pay_ab)) ≡ None
no_bound_on_no_steps = refl

sort_of_no_steps : first_failing (is_sorted with_fx) (sites Once (Scale (Acc (Yes true) 0 (Lit (pos 700) 2)) pay_ab)) ≡ Some 1
sort_of_no_steps = refl
