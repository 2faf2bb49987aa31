-- Worked rows of values: one of each form of expression.
use Rattle.std.proofs.Common.{◌≡◌, pos, neg_ℤ, true, false, [], refl}
use Rattle.decimal.specs.Rounding.{at_scale, divided}
use Rattle.decimal.specs.declared.Mode.TheVariants.{HalfEven}
use Rattle.term_model.specs.declared.terms.NumOp.TheVariants.{Plus, Minus, Times, Min, Max}
use Rattle.term_model.specs.declared.terms.CmpOp.TheVariants.{Less, LessEq, Greater, Equal}
use Rattle.term_model.specs.declared.terms.LogicOp.TheVariants.{And, Or}
use Rattle.term_model.specs.declared.values.Value.{Value}
use Rattle.term_model.specs.declared.values.Value.TheVariants.{Num as Amount, Truth}
use Rattle.term_model.specs.Terms.{Expression, Lit, Yes, Var, Obs, Neg, Num, Cmp, Not, Logic, Cond, Widen, Round, Div, Acc}
use Rattle.term_model.specs.Values.{value_of}
use Rattle.term_model.proofs.RowsSample.{with_fx, level, sum_of_three}

-- the value on day 2, with FX at 1.0000 on the days 0 to 2
abbrev value : Expression → Value
value e = value_of with_fx e [] level (pos 2)

abbrev one : Expression
one = Lit (pos 1) 0

abbrev two_and_a_half : Expression
two_and_a_half = Lit (pos 250) 2

opposite : value (Neg two_and_a_half) ≡ Amount (neg_ℤ (pos 250))
opposite = refl

sum : value (Num Plus one two_and_a_half) ≡ Amount (pos 350)
sum = refl

difference : value (Num Minus one two_and_a_half) ≡ Amount (neg_ℤ (pos 150))
difference = refl

product : value (Num Times (Lit (pos 15) 1) two_and_a_half) ≡ Amount (pos 3750)
product = refl

less_of_two : value (Num Min one two_and_a_half) ≡ Amount (pos 100)
less_of_two = refl

greater_of_two : value (Num Max one two_and_a_half) ≡ Amount (pos 250)
greater_of_two = refl

compared : value (Cmp LessEq (Lit (pos 100) 2) one) ≡ Truth true
compared = refl

compared_strictly : value (Cmp Less (Lit (pos 100) 2) one) ≡ Truth false
compared_strictly = refl

compared_as_numbers : value (Cmp Equal (Lit (pos 100) 2) one) ≡ Truth true
compared_as_numbers = refl

negated : value (Not (Yes true)) ≡ Truth false
negated = refl

and : value (Logic And (Yes true) (Yes false)) ≡ Truth false
and = refl

or : value (Logic Or (Yes false) (Yes true)) ≡ Truth true
or = refl

-- the branch that is chosen has the scale of the whole
chosen : value (Cond (Yes true) one two_and_a_half) ≡ Amount (pos 100)
chosen = refl

widened : value (Widen 4 (Lit (pos 15) 1)) ≡ Amount (pos 15000)
widened = refl

rounded : value (Round HalfEven 1 two_and_a_half) ≡ Amount (pos 25)
unfolding at_scale
rounded = refl

divided_by_three : value (Div HalfEven 2 one (Lit (pos 3) 0)) ≡ Amount (pos 33)
unfolding divided
divided_by_three = refl

observed_yesterday : value (Obs 0 (neg_ℤ (pos 1))) ≡ Amount (pos 10000)
observed_yesterday = refl

-- what is not held reads as the least value
observed_nowhere : value (Obs 0 (pos 1)) ≡ Amount (pos 5000)
observed_nowhere = refl

summed : value sum_of_three ≡ Amount (pos 30000)
summed = refl

-- an accumulator over truth values
ever_above : value (Acc (Logic Or (Var 0) (Cmp Greater (Obs 0 (pos 0)) (Lit (pos 9) 1))) 3 (Yes false)) ≡ Truth true
ever_above = refl
