-- Declarations and contracts of the worked rows: parties A, B and C are 0, 1 and 2, the asset EUR is 0, and the
-- observable FX, of 4 decimals from 0.5000 to 2.0000, is label 0.
use Rattle.std.proofs.Common.{ℕ, ℤ, pos, [], ◌∷◌, None, codes}
use Rattle.decimal.specs.declared.Mode.TheVariants.{HalfEven}
use Rattle.term_model.specs.Declarations.{Declarations}
use Rattle.term_model.specs.declared.label.Label.{Label}
use Rattle.term_model.specs.declared.label.Label.TheVariants.{Number}
use Rattle.term_model.specs.declared.terms.NumOp.TheVariants.{Plus}
use Rattle.term_model.specs.declared.terms.CmpOp.TheVariants.{Greater}
use Rattle.term_model.specs.DayCounts.{Num as Count}
use Rattle.term_model.specs.declared.values.Value.TheVariants.{Num as Amount}
use Rattle.term_model.specs.Terms.{Expression, Lit, Var, Obs, Num, Cmp, Round, Div, Acc, Contract, Pay, Both, Scale, After, Let, Within}
use Rattle.term_model.specs.Environments.{Environment}
use Rattle.term_model.specs.Flows.{Flow}

abbrev pub with_labels : Label → Declarations
with_labels label =
    record { version = 1; amounts = 2; origin = None; start = 0; parties = codes "A" ∷ codes "B" ∷ codes "C" ∷ []; assets = record { 0 = codes "EUR"; 1 = 2 } ∷ []; labels = record { 0 = codes "X"; 1 = label } ∷ []; templates = [] }

abbrev pub with_fx : Declarations
with_fx = with_labels (Number 4 (pos 5000) (pos 20000))

abbrev pub a_to_b : Flow
a_to_b = record { from = 0; to = 1; asset = 0 }

abbrev pub b_to_a : Flow
b_to_a = record { from = 1; to = 0; asset = 0 }

abbrev pub pay_ab : Contract
pay_ab = Pay 0 0 1

abbrev pub pay_ba : Contract
pay_ba = Pay 0 1 0

abbrev pub loan : Contract
loan = Both (Scale (Lit (pos 10000) 2) pay_ab) (After (Count 90) (Scale (Lit (pos 10500) 2) pay_ba))

-- if (obs(FX, 0) > 1.1000) within n then scale(1.00, AB) else scale(2.00, BA)
abbrev pub touch : ℕ → Contract
touch n =
    Within (Cmp Greater (Obs 0 (pos 0)) (Lit (pos 11000) 4)) (Count n) (Scale (Lit (pos 100) 2) pay_ab) (Scale (Lit (pos 200) 2) pay_ba)

abbrev pub fx : ℤ → ℤ → Environment → Environment
fx day rate rest = record { 0 = record { label = 0; day = day }; 1 = Amount rate } ∷ rest

-- three days at 1.0000
abbrev pub level : Environment
level = fx (pos 0) (pos 10000) (fx (pos 1) (pos 10000) (fx (pos 2) (pos 10000) []))

-- acc(x, (x + obs(FX, 0)), 3, 0.0000)
abbrev pub sum_of_three : Expression
sum_of_three = Acc (Num Plus (Var 0) (Obs 0 (pos 0))) 3 (Lit (pos 0) 4)

abbrev pub average : Contract
average = After (Count 3) (Scale (Div HalfEven 2 sum_of_three (Lit (pos 3) 0)) pay_ab)

-- let x = round(half_even, 2, obs(FX, 30)) in after(n, scale(x, AB))
abbrev pub later_rate : ℕ → Contract
later_rate n = Let (Round HalfEven 2 (Obs 0 (pos 30))) (After (Count n) (Scale (Var 0) pay_ab))
