-- Payoff code by its contents: the trees that the program's values stand for, without where their parts lie in memory
-- (the payoff language of Annenkov and Elsman, PPDP 2018).
use Rattle.std.specs.Prelude.{ℕ, ℤ, Bool}
use Rattle.decimal.specs.declared.Mode.{Mode}
use Rattle.term_model.specs.declared.terms.NumOp.{NumOp}
use Rattle.term_model.specs.declared.terms.CmpOp.{CmpOp}
use Rattle.term_model.specs.declared.terms.LogicOp.{LogicOp}
use Rattle.payoff_terms.specs.declared.code.Vx.{Vx}
use Rattle.payoff_terms.specs.declared.code.Vx.TheVariants.{Lit as Lit', Yes as Yes', Var as Var', Model as Model', Neg', Num', Cmp', Not', Logic', Cond', Widen', Round', Div', Acc'}
use Rattle.payoff_terms.specs.declared.code.Code.{Code}
use Rattle.payoff_terms.specs.declared.code.Code.TheVariants.{None as None', Pay as Pay', Add', Scale', Let', LoopIf', Cut'}
use Rattle.payoff_terms.specs.TemplateDates.{Date, date}

pub data ValueExpression : Type 0 where
  Lit : (mant : ℤ) (scale : ℕ) → ValueExpression
  Yes : (value : Bool) → ValueExpression
  Var : (back : ℕ) → ValueExpression
  Model : (label : ℕ) (on : Date) → ValueExpression
  Neg : (of : ValueExpression) → ValueExpression
  Num : (op : NumOp) (left right : ValueExpression) → ValueExpression
  Cmp : (op : CmpOp) (left right : ValueExpression) → ValueExpression
  Not : (of : ValueExpression) → ValueExpression
  Logic : (op : LogicOp) (left right : ValueExpression) → ValueExpression
  Cond : (test yes no : ValueExpression) → ValueExpression
  Widen : (scale : ℕ) (of : ValueExpression) → ValueExpression
  Round : (mode : Mode) (scale : ℕ) (of : ValueExpression) → ValueExpression
  Div : (mode : Mode) (scale : ℕ) (top below : ValueExpression) → ValueExpression
  Acc : (body : ValueExpression) (days : ℕ) (first : ValueExpression) → ValueExpression

pub data PayoffCode : Type 0 where
  Nothing : PayoffCode
  PayOn : (on : Date) (asset from to : ℕ) → PayoffCode
  Add : (left right : PayoffCode) → PayoffCode
  ScaleBy : (factor : ValueExpression) (body : PayoffCode) → PayoffCode
  LetBe : (bound : ValueExpression) (body : PayoffCode) → PayoffCode
  Loop : (test : ValueExpression) (upto : Date) (hit miss : PayoffCode) → PayoffCode
  Cut : (on : Date) (body : PayoffCode) → PayoffCode

abbrev pub value_expression : Vx → ValueExpression
value_expression (Lit' m s) = Lit m s
value_expression (Yes' b) = Yes b
value_expression (Var' k) = Var k
value_expression (Model' l x) = Model l (date x)
value_expression (Neg' p e) = Neg (value_expression e)
value_expression (Num' op p a q b) = Num op (value_expression a) (value_expression b)
value_expression (Cmp' op p a q b) = Cmp op (value_expression a) (value_expression b)
value_expression (Not' p e) = Not (value_expression e)
value_expression (Logic' op p a q b) = Logic op (value_expression a) (value_expression b)
value_expression (Cond' p t q a r b) = Cond (value_expression t) (value_expression a) (value_expression b)
value_expression (Widen' s p e) = Widen s (value_expression e)
value_expression (Round' mode s p e) = Round mode s (value_expression e)
value_expression (Div' mode s p a q b) = Div mode s (value_expression a) (value_expression b)
value_expression (Acc' p body n q first) = Acc (value_expression body) n (value_expression first)

abbrev pub payoff_code : Code → PayoffCode
payoff_code None' = Nothing
payoff_code (Pay' x a p q) = PayOn (date x) a p q
payoff_code (Add' p a q b) = Add (payoff_code a) (payoff_code b)
payoff_code (Scale' v p k) = ScaleBy (value_expression v) (payoff_code k)
payoff_code (Let' v p k) = LetBe (value_expression v) (payoff_code k)
payoff_code (LoopIf' v x p a q b) = Loop (value_expression v) (date x) (payoff_code a) (payoff_code b)
payoff_code (Cut' x p k) = Cut (date x) (payoff_code k)
