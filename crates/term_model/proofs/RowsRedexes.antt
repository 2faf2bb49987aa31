-- One redex of each kind, and beside each a term that is none.
use Rattle.std.proofs.Common.{◌≡◌, ℤ, pos, Bool, true, false, Option, Some, None, refl}
use Rattle.term_model.specs.declared.terms.NumOp.TheVariants.{Plus}
use Rattle.term_model.specs.declared.terms.LogicOp.TheVariants.{And}
use Rattle.term_model.specs.DayCounts.{Num as Count}
use Rattle.term_model.specs.Terms.{Expression, Lit, Yes, Var, Obs, Num, Logic, Cond, Acc, Contract, Zero, Both, Scale, After, Let, Within}
use Rattle.term_model.specs.Redexes.{Redex, EmptyLeft, EmptyRight, ScaledNothing, ZeroFactor, NoDelay, TwoDelays, DelayedNothing, UnusedName, LiteralName, NothingEither, DecidedTest, LiteralOperands, DecidedChoice, FixedPlace, NoSteps, FixedSteps, is_redex}
use Rattle.term_model.specs.Sites.{OfExpression, OfContract}
use Rattle.term_model.proofs.RowsSample.{with_fx, pay_ab, level, sum_of_three}

-- FX is fixed on the days 0 to 2
abbrev contract_is : Redex → Contract → Bool
contract_is kind c = is_redex with_fx level None kind (OfContract c)

abbrev expression_is : Option ℤ → Redex → Expression → Bool
expression_is frame kind e = is_redex with_fx level frame kind (OfExpression e)

abbrev one : Expression
one = Lit (pos 1) 0

abbrev rate : Expression
rate = Obs 0 (pos 0)

empty_left : contract_is EmptyLeft (Both Zero pay_ab) ≡ true
empty_left = refl

not_empty_left : contract_is EmptyLeft (Both pay_ab Zero) ≡ false
not_empty_left = refl

empty_right : contract_is EmptyRight (Both pay_ab Zero) ≡ true
empty_right = refl

not_empty_right : contract_is EmptyRight (Both Zero pay_ab) ≡ false
not_empty_right = refl

scaled_nothing : contract_is ScaledNothing (Scale rate Zero) ≡ true
scaled_nothing = refl

not_scaled_nothing : contract_is ScaledNothing (Scale rate (After (Count 1) Zero)) ≡ false
not_scaled_nothing = refl

zero_factor : contract_is ZeroFactor (Scale (Lit (pos 0) 2) pay_ab) ≡ true
zero_factor = refl

not_zero_factor : contract_is ZeroFactor (Scale (Lit (pos 1) 2) pay_ab) ≡ false
not_zero_factor = refl

no_delay : contract_is NoDelay (After (Count 0) pay_ab) ≡ true
no_delay = refl

not_no_delay : contract_is NoDelay (After (Count 1) pay_ab) ≡ false
not_no_delay = refl

two_delays : contract_is TwoDelays (After (Count 1) (After (Count 2) pay_ab)) ≡ true
two_delays = refl

not_two_delays : contract_is TwoDelays (After (Count 1) (Scale rate (After (Count 2) pay_ab))) ≡ false
not_two_delays = refl

delayed_nothing : contract_is DelayedNothing (After (Count 1) Zero) ≡ true
delayed_nothing = refl

not_delayed_nothing : contract_is DelayedNothing (After (Count 1) pay_ab) ≡ false
not_delayed_nothing = refl

unused_name : contract_is UnusedName (Let rate (Let rate (Scale (Var 0) pay_ab))) ≡ true
unused_name = refl

not_unused_name : contract_is UnusedName (Let rate (Let rate (Scale (Var 1) pay_ab))) ≡ false
not_unused_name = refl

literal_name : contract_is LiteralName (Let one (Scale (Var 0) pay_ab)) ≡ true
literal_name = refl

not_literal_name : contract_is LiteralName (Let rate (Scale (Var 0) pay_ab)) ≡ false
not_literal_name = refl

nothing_either : contract_is NothingEither (Within rate (Count 1) Zero Zero) ≡ true
nothing_either = refl

not_nothing_either : contract_is NothingEither (Within rate (Count 1) Zero pay_ab) ≡ false
not_nothing_either = refl

decided_test : contract_is DecidedTest (Within (Yes false) (Count 1) pay_ab Zero) ≡ true
decided_test = refl

not_decided_test : contract_is DecidedTest (Within rate (Count 1) pay_ab Zero) ≡ false
not_decided_test = refl

literal_operands : expression_is None LiteralOperands (Num Plus one one) ≡ true
literal_operands = refl

not_literal_operands : expression_is None LiteralOperands (Num Plus one rate) ≡ false
not_literal_operands = refl

-- a literal on the left is enough for `&`, and one on the right is not
literal_on_the_left : expression_is None LiteralOperands (Logic And (Yes true) rate) ≡ true
literal_on_the_left = refl

literal_on_the_right : expression_is None LiteralOperands (Logic And rate (Yes true)) ≡ false
literal_on_the_right = refl

decided_choice : expression_is None DecidedChoice (Cond (Yes true) one rate) ≡ true
decided_choice = refl

not_decided_choice : expression_is None DecidedChoice (Cond rate one one) ≡ false
not_decided_choice = refl

fixed_place : expression_is (Some (pos 2)) FixedPlace rate ≡ true
fixed_place = refl

not_fixed_place : expression_is (Some (pos 3)) FixedPlace rate ≡ false
not_fixed_place = refl

not_known_frame : expression_is None FixedPlace rate ≡ false
not_known_frame = refl

no_steps : expression_is None NoSteps (Acc rate 0 one) ≡ true
no_steps = refl

not_no_steps : expression_is None NoSteps (Acc rate 1 one) ≡ false
not_no_steps = refl

-- the sum over the days 0 to 2, and over the days 1 to 3
fixed_steps : expression_is (Some (pos 2)) FixedSteps sum_of_three ≡ true
fixed_steps = refl

not_fixed_steps : expression_is (Some (pos 3)) FixedSteps sum_of_three ≡ false
not_fixed_steps = refl

-- it holds a name that is bound outside it
open_steps : expression_is (Some (pos 2)) FixedSteps (Acc (Var 1) 1 one) ≡ false
open_steps = refl
