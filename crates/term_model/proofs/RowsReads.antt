-- Worked rows of reads: which places a contract reads, in order, and the first that is not fixed.
use Rattle.std.proofs.Common.{true, ◌≡◌, ℤ, pos, [], ◌∷◌, Some, None, refl}
use Rattle.decimal.specs.declared.Mode.TheVariants.{HalfEven}
use Rattle.term_model.specs.declared.label.Label.TheVariants.{Flag}
use Rattle.term_model.specs.DayCounts.{Num as Count}
use Rattle.term_model.specs.declared.values.Value.TheVariants.{Truth}
use Rattle.term_model.specs.Terms.{Lit, Yes, Obs, Round, Contract, Scale, After, Within}
use Rattle.term_model.specs.Environments.{Environment, Place}
use Rattle.term_model.specs.Reads.{reads_of_contract, first_unfixed, upto}
use Rattle.term_model.proofs.RowsSample.{with_labels, with_fx, pay_ab, pay_ba, touch, level, average}

abbrev at : ℤ → Place
at day = record { label = 0; day = day }

-- the average over three days does not read day 0
average_reads : reads_of_contract with_fx average [] [] [] (pos 0) (pos 0) (pos 3) ≡ at (pos 1) ∷ at (pos 2) ∷ at (pos 3) ∷ []
average_reads = refl

-- if obs(Default_B, 0) within 90 then scale(40.00, ..) else scale(100.00, ..), with a default on day 10
abbrev guarded : Contract
guarded = Within (Obs 0 (pos 0)) (Count 90) (Scale (Lit (pos 4000) 2) pay_ab) (Scale (Lit (pos 10000) 2) pay_ba)

abbrev default_on_day_10 : Environment
default_on_day_10 = record { 0 = at (pos 10); 1 = Truth true } ∷ []

-- the days 0 to 10 and no later one
guarded_reads : reads_of_contract (with_labels Flag) guarded [] [] default_on_day_10 (pos 0) (pos 0) (pos 200) ≡ upto 10 (λ i. at (pos i) ∷ [])
guarded_reads = refl

-- scale(round(half_even, 2, obs(FX, 0)), after(5, AB)): the factor is read where the payment is among the days asked for
abbrev paid_on_day_5 : Contract
paid_on_day_5 = Scale (Round HalfEven 2 (Obs 0 (pos 0))) (After (Count 5) pay_ab)

until_4 : first_unfixed [] (reads_of_contract with_fx paid_on_day_5 [] [] [] (pos 0) (pos 0) (pos 4)) ≡ None
until_4 = refl

until_5 : first_unfixed [] (reads_of_contract with_fx paid_on_day_5 [] [] [] (pos 0) (pos 0) (pos 5)) ≡ Some (at (pos 0))
until_5 = refl

-- the touch with day 3 not fixed
touch_until_2 : first_unfixed level (reads_of_contract with_fx (touch 3) [] [] level (pos 0) (pos 0) (pos 2)) ≡ None
touch_until_2 = refl

touch_until_3 : first_unfixed level (reads_of_contract with_fx (touch 3) [] [] level (pos 0) (pos 0) (pos 3)) ≡ Some (at (pos 3))
touch_until_3 = refl

-- if true within 0 then AB else scale(round(half_even, 2, obs(FX, 0)), AB): a branch that is not taken reads nothing
untaken : reads_of_contract with_fx (Within (Yes true) (Count 0) pay_ab (Scale (Round HalfEven 2 (Obs 0 (pos 0))) pay_ab)) [] [] [] (pos 0) (pos 0) (pos 100) ≡ []
untaken = refl
