-- Worked rows of residuals: each is what is left of its contract after some days, as `left_of` computes it in every
-- environment that extends the fixings, and reduced. So by the laws it is accepted, carries the contract over these days,
-- and holds no redex.
use Rattle.std.proofs.Common.{◌≡◌, ℕ, suc, ℤ, pos, ◌+ℤ◌, ◌-◌, ◌≤◌, ◌≤ℤ◌, ◌==◌, nat_le, Bool, true, false, if◌then◌else◌, [], ◌∷◌, Option, Some, None, codes, refl, sym, ap, ap₂, subst, arith, int_eq}
use Rattle.std.proofs.lemmas.Int.{ints}
use Rattle.std.proofs.lemmas.Bool.Decides.{Decides-eqb}
use Rattle.decimal.specs.Rounding.{at_scale}
use Rattle.decimal.specs.declared.Mode.TheVariants.{HalfEven}
use Rattle.term_model.specs.Declarations.{Declarations}
use Rattle.term_model.specs.declared.label.Label.TheVariants.{Number}
use Rattle.term_model.specs.declared.terms.CmpOp.TheVariants.{Greater}
use Rattle.term_model.specs.declared.values.Value.{Value}
use Rattle.term_model.specs.declared.values.Value.TheVariants.{Num as Amount}
use Rattle.term_model.specs.DayCounts.{Num as Count, Sum}
use Rattle.term_model.specs.Terms.{Lit, Var, Obs, Cmp, Round, Contract, Zero, Pay, Both, Scale, After, Let, Within}
use Rattle.term_model.specs.Environments.{Environment, Place, IsAdmitted, IsValueOf, Extends, held, label_of, same_place, value_or}
use Rattle.term_model.specs.Instances.{instance}
use Rattle.term_model.specs.Values.{num, of_cmp}
use Rattle.term_model.specs.Residuals.{Carries}
use Rattle.term_model.specs.Redexes.{IsReduced}
use Rattle.term_model.specs.Sites.{Once, EachDay, sites}
use Rattle.term_model.specs.Sorts.{is_sorted}
use Rattle.term_model.specs.Scales.{is_scaled}
use Rattle.term_model.specs.Smallness.{is_small}
use Rattle.term_model.specs.Bounds.{is_bounded}
use Rattle.term_model.specs.Acceptance.{IsAccepted}
use Rattle.term_model.proofs.AlikeFacts.{and_left}
use Rattle.term_model.proofs.TimeFacts.{nodes_timed}
use Rattle.term_model.proofs.Trials.{first_failing-is}
use Rattle.rewriting.specs.Measures.{size_in}
use Rattle.advance_step.specs.WhatIsLeft.{left_of}
use Rattle.advance_step.specs.Reducing.{reduced_times}
use Rattle.advance_step.proofs.ReducingFacts.{residuals_hold}

-- amounts of 2 decimals, the parties A and B are 0 and 1, the asset EUR is 0, and FX, from 0.5000 to 2.0000, is label 0
abbrev with_fx : Declarations
with_fx =
    record { version = 1; amounts = 2; origin = None; start = 0; parties = codes "A" ∷ codes "B" ∷ []; assets = record { 0 = codes "EUR"; 1 = 2 } ∷ []; labels = record { 0 = codes "FX"; 1 = Number 4 (pos 5000) (pos 20000) } ∷ []; templates = [] }

abbrev pay_ab : Contract
pay_ab = Pay 0 0 1

abbrev pay_ba : Contract
pay_ba = Pay 0 1 0

abbrev fx : ℤ → ℤ → Environment → Environment
fx day rate rest = record { 0 = record { label = 0; day = day }; 1 = Amount rate } ∷ rest

abbrev loan : Contract
loan = Both (Scale (Lit (pos 10000) 2) pay_ab) (After (Count 90) (Scale (Lit (pos 10500) 2) pay_ba))

-- if (obs(FX, 0) > 1.1000) within n then scale(1.00, AB) else scale(2.00, BA)
abbrev touch : ℕ → Contract
touch n =
    Within (Cmp Greater (Obs 0 (pos 0)) (Lit (pos 11000) 4)) (Count n) (Scale (Lit (pos 100) 2) pay_ab) (Scale (Lit (pos 200) 2) pay_ba)

-- let x = round(half_even, 2, obs(FX, 30)) in after(30, scale(x, AB))
abbrev later_rate : Contract
later_rate = Let (Round HalfEven 2 (Obs 0 (pos 30))) (After (Count 30) (Scale (Var 0) pay_ab))

-- rest is accepted, carries c, which stands on frame f, over m days under the fixings, and is reduced
abbrev IsResidual : Contract → ℤ → Environment → ℕ → Contract → Type 0
IsResidual c f fixings m rest = IsAccepted with_fx rest × Carries with_fx c f fixings m rest × IsReduced with_fx rest fixings (f +ℤ pos m)

-- whatever comes, rest is what is left of c after j + 1 days
abbrev IsLeft : Contract → ℤ → Environment → ℕ → Contract → Type 0
IsLeft c f fixings j rest = (env : Environment) → IsAdmitted with_fx env → Extends fixings env → rest ≡ left_of with_fx c [] env f j

reduces : (fixings : Environment) (f : ℤ) (c rest : Contract) (j n : ℕ) → IsAdmitted with_fx fixings → IsAccepted with_fx c → IsLeft c f fixings j rest → size_in rest ≤ n → IsResidual c f fixings (suc j) (reduced_times with_fx fixings (f +ℤ pos (suc j)) n rest)
reduces fixings f c rest j n a h left le =
    let all = residuals_hold with_fx fixings f c rest j n refl a h left le in
    (all.0, all.1, all.2)

-- ---- fixings that are admitted

admitted_none : IsAdmitted with_fx []
admitted_none q v h = absurd (cc)

by_place : (day rate : ℤ) (rest : Environment) (q : Place) (v : Value) → pos 5000 ≤ℤ rate → rate ≤ℤ pos 20000 → IsAdmitted with_fx rest → (b : Bool) → same_place (record { label = 0; day = day }) q ≡ b → (if b then Some (Amount rate) else held rest q) ≡ Some v → IsValueOf (label_of with_fx q.label) v
by_place day rate rest q v low high a true here h =
    let label : 0 ≡ q.label = (Decides-eqb 0 q.label).0 (and_left (0 == q.label) (int_eq day q.day) here) in
    let value : Amount rate ≡ v = cc in
    subst (λ (x : Value). IsValueOf (label_of with_fx q.label) x) value (subst (λ (k : ℕ). IsValueOf (label_of with_fx k) (Amount rate)) label (low, high))
by_place day rate rest q v low high a false there h = a q v h

admitted_fx : (day rate : ℤ) (rest : Environment) → pos 5000 ≤ℤ rate → rate ≤ℤ pos 20000 → IsAdmitted with_fx rest → IsAdmitted with_fx (fx day rate rest)
admitted_fx day rate rest low high a q v h = by_place day rate rest q v low high a (same_place (record { label = 0; day = day }) q) refl h

-- ---- contracts that are accepted

touch_accepted : IsAccepted with_fx (touch 3)
touch_accepted =
    record {
      sorts = first_failing-is (is_sorted with_fx) (sites Once (touch 3));
      times = nodes_timed (touch 3) [] 0 [] (pos 0) refl (
        (omega (arith, ints), tt),
        (pos 0, omega (arith, ints), tt, omega (arith, ints)),
        (pos 0, omega (arith, ints), tt, omega (arith, ints)),
      );
      scales = first_failing-is (is_scaled with_fx) (sites Once (touch 3));
      sizes = first_failing-is is_small (sites Once (touch 3));
      bounds = first_failing-is (is_bounded with_fx) (sites EachDay (touch 3));
    }

shorter_accepted : IsAccepted with_fx (touch 1)
shorter_accepted =
    record {
      sorts = first_failing-is (is_sorted with_fx) (sites Once (touch 1));
      times = nodes_timed (touch 1) [] 0 [] (pos 0) refl (
        (omega (arith, ints), tt),
        (pos 0, omega (arith, ints), tt, omega (arith, ints)),
        (pos 0, omega (arith, ints), tt, omega (arith, ints)),
      );
      scales = first_failing-is (is_scaled with_fx) (sites Once (touch 1));
      sizes = first_failing-is is_small (sites Once (touch 1));
      bounds = first_failing-is (is_bounded with_fx) (sites EachDay (touch 1));
    }

rate_accepted : IsAccepted with_fx later_rate
unfolding at_scale
rate_accepted =
    record {
      sorts = first_failing-is (is_sorted with_fx) (sites Once later_rate);
      times = nodes_timed later_rate [] 0 [] (pos 30) refl (pos 30, omega (arith, ints), (pos 0, omega (arith, ints), omega (arith, ints), omega (arith, ints)));
      scales = first_failing-is (is_scaled with_fx) (sites Once later_rate);
      sizes = first_failing-is is_small (sites Once later_rate);
      bounds = first_failing-is (is_bounded with_fx) (sites EachDay later_rate);
    }

loan_accepted : IsAccepted with_fx loan
loan_accepted =
    record {
      sorts = first_failing-is (is_sorted with_fx) (sites Once loan);
      times = nodes_timed loan [] 0 [] (pos 0) refl (
        (pos 0, omega (arith, ints), tt, omega (arith, ints)),
        (pos 0, omega (arith, ints), tt, omega (arith, ints)),
      );
      scales = first_failing-is (is_scaled with_fx) (sites Once loan);
      sizes = first_failing-is is_small (sites Once loan);
      bounds = first_failing-is (is_bounded with_fx) (sites EachDay loan);
    }

-- ---- a touch of three days, with FX at 1.0000 on the days 0 to 2 and at 1.2000 on day 3

abbrev risen : Environment
risen = fx (pos 0) (pos 10000) (fx (pos 1) (pos 10000) (fx (pos 2) (pos 10000) (fx (pos 3) (pos 12000) [])))

risen_admitted : IsAdmitted with_fx risen
risen_admitted =
    let low : pos 5000 ≤ℤ pos 10000 = omega (arith, ints) in
    let high : pos 10000 ≤ℤ pos 20000 = omega (arith, ints) in
    let last = admitted_fx (pos 3) (pos 12000) [] (omega (arith, ints)) (omega (arith, ints)) admitted_none in
    admitted_fx (pos 0) (pos 10000) (fx (pos 1) (pos 10000) (fx (pos 2) (pos 10000) (fx (pos 3) (pos 12000) []))) low high
    (admitted_fx (pos 1) (pos 10000) (fx (pos 2) (pos 10000) (fx (pos 3) (pos 12000) [])) low high (admitted_fx (pos 2) (pos 10000) (fx (pos 3) (pos 12000) []) low high last))

-- the test on what is held at FX on a day
abbrev passes : Option Value → Bool
passes v = of_cmp Greater 4 (num (value_or v (Amount (pos 5000)))) 4 (pos 11000)

-- the first true day of two, and what is left after them of a test over n days on frame f
abbrev first : Bool → Bool → Option ℕ
first today tomorrow = elim (if today then Some 0 else None) [ Some i ↦ Some i | None ↦ if tomorrow then Some 1 else None ]

abbrev two_later : Environment → ℤ → ℕ → Option ℕ → Contract
two_later env f n o =
    elim o [
      | Some k ↦ left_of with_fx (Scale (Lit (pos 100) 2) pay_ab) [] env (f +ℤ pos k) (1 - k)
      | None ↦ if nat_le n 1 then left_of with_fx (Scale (Lit (pos 200) 2) pay_ba) [] env (f +ℤ pos n) (1 - n) else touch (n - 2)
    ]

-- it has not come true on the days 0 and 1, so one day is left of it on day 2
two_days_on : IsLeft (touch 3) (pos 0) risen 1 (touch 1)
two_days_on env a x =
    let today = ap passes (x (record { label = 0; day = pos 0 }) (Amount (pos 10000)) refl) in
    let tomorrow = ap passes (x (record { label = 0; day = pos 1 }) (Amount (pos 10000)) refl) in
    sym (ap₂ (λ (u v : Bool). two_later env (pos 0) 3 (first u v)) today tomorrow)

touch_residual : IsResidual (touch 3) (pos 0) risen 2 (touch 1)
touch_residual = reduces risen (pos 0) (touch 3) (touch 1) 1 11 risen_admitted touch_accepted two_days_on (omega arith)

-- it comes true on day 3, so nothing is left of that on day 4
four_days_on : IsLeft (touch 1) (pos 2) risen 1 Zero
four_days_on env a x =
    let today = ap passes (x (record { label = 0; day = pos 2 }) (Amount (pos 10000)) refl) in
    let tomorrow = ap passes (x (record { label = 0; day = pos 3 }) (Amount (pos 12000)) refl) in
    sym (ap₂ (λ (u v : Bool). two_later env (pos 2) 1 (first u v)) today tomorrow)

touched_residual : IsResidual (touch 1) (pos 2) risen 2 Zero
touched_residual = reduces risen (pos 2) (touch 1) Zero 1 1 risen_admitted shorter_accepted four_days_on (omega arith)

-- ---- let x = round(half_even, 2, obs(FX, 30)) in after(30, scale(x, AB))

-- let x = round(half_even, 2, obs(FX, 29)) in after(29, scale(x, AB))
abbrev rate_left : Contract
rate_left = Let (Round HalfEven 2 (Obs 0 (pos 29))) (After (Count 29) (Scale (Var 0) pay_ab))

rate_residual : IsResidual later_rate (pos 0) [] 1 rate_left
rate_residual = reduces [] (pos 0) later_rate rate_left 0 8 admitted_none rate_accepted (λ env a x. refl) (omega arith)

-- FX at 1.2345 on day 30
abbrev told_rate : Environment
told_rate = fx (pos 30) (pos 12345) []

-- let x = round(half_even, 2, obs(FX, 0)) in scale(x, AB)
abbrev due_rate : Contract
due_rate = Let (Round HalfEven 2 (Obs 0 (pos 0))) (Scale (Var 0) pay_ab)

told_residual : IsResidual later_rate (pos 0) told_rate 30 (Scale (Lit (pos 123) 2) pay_ab)
unfolding at_scale
told_residual =
    let admitted = admitted_fx (pos 30) (pos 12345) [] (omega (arith, ints)) (omega (arith, ints)) admitted_none in
    reduces told_rate (pos 0) later_rate due_rate 29 7 admitted rate_accepted (λ env a x. refl) (omega arith)

-- ---- a loan, of which the second payment is left on day 30

loan_residual : IsResidual loan (pos 0) [] 30 (After (Count 60) (Scale (Lit (pos 10500) 2) pay_ba))
loan_residual =
    reduces [] (pos 0) loan (After (Count 60) (Scale (Lit (pos 10500) 2) pay_ba)) 29 4 admitted_none loan_accepted (λ env a x. refl) (omega arith)

-- ---- a payment after 30 days and the days of a template, at 60 of these, of which 85 are left on day 5

-- after(30 + T, scale(105.00, BA))
abbrev delayed : Contract
delayed = instance (60 ∷ []) (After (Sum 30 (0 ∷ [])) (Scale (Lit (pos 10500) 2) pay_ba))

delayed_accepted : IsAccepted with_fx delayed
delayed_accepted =
    record {
      sorts = first_failing-is (is_sorted with_fx) (sites Once delayed);
      times = nodes_timed delayed [] 0 [] (pos 0) refl (pos 0, omega (arith, ints), tt, omega (arith, ints));
      scales = first_failing-is (is_scaled with_fx) (sites Once delayed);
      sizes = first_failing-is is_small (sites Once delayed);
      bounds = first_failing-is (is_bounded with_fx) (sites EachDay delayed);
    }

delayed_residual : IsResidual delayed (pos 0) [] 5 (After (Count 85) (Scale (Lit (pos 10500) 2) pay_ba))
delayed_residual =
    reduces [] (pos 0) delayed (After (Count 85) (Scale (Lit (pos 10500) 2) pay_ba)) 4 4 admitted_none delayed_accepted (λ env a x. refl) (omega arith)
