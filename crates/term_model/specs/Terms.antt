-- Expressions and contracts by their contents: the trees that the program's values stand for, without where their
-- parts lie in memory (the language of Bahr, Berthold and Elsman, ICFP 2015).
use Rattle.std.specs.Prelude.{ℕ, ℤ, Bool}
use Rattle.decimal.specs.declared.Mode.{Mode}
use Rattle.term_model.specs.declared.terms.NumOp.{NumOp}
use Rattle.term_model.specs.declared.terms.CmpOp.{CmpOp}
use Rattle.term_model.specs.declared.terms.LogicOp.{LogicOp}
use Rattle.term_model.specs.DayCounts.{Days, day_count}
use Rattle.term_model.specs.declared.terms.Expr.{Expr}
use Rattle.term_model.specs.declared.terms.Expr.TheVariants.{Lit as Lit', Yes as Yes', Var as Var', Obs as Obs', Neg', Num', Cmp', Not', Logic', Cond', Widen', Round', Div', Acc'}
use Rattle.term_model.specs.declared.terms.Contr.{Contr}
use Rattle.term_model.specs.declared.terms.Contr.TheVariants.{Zero as Zero', Pay as Pay', Both', Scale', After', Let', Within'}

pub data Expression : Type 0 where
  Lit : (mant : ℤ) (scale : ℕ) → Expression
  Yes : (value : Bool) → Expression
  Var : (back : ℕ) → Expression
  Obs : (label : ℕ) (offset : ℤ) → Expression
  Neg : (of : Expression) → Expression
  Num : (op : NumOp) (left right : Expression) → Expression
  Cmp : (op : CmpOp) (left right : Expression) → Expression
  Not : (of : Expression) → Expression
  Logic : (op : LogicOp) (left right : Expression) → Expression
  Cond : (test yes no : Expression) → Expression
  Widen : (scale : ℕ) (of : Expression) → Expression
  Round : (mode : Mode) (scale : ℕ) (of : Expression) → Expression
  Div : (mode : Mode) (scale : ℕ) (top below : Expression) → Expression
  Acc : (body : Expression) (days : ℕ) (first : Expression) → Expression

pub data Contract : Type 0 where
  Zero : Contract
  Pay : (asset from to : ℕ) → Contract
  Both : (left right : Contract) → Contract
  Scale : (factor : Expression) (body : Contract) → Contract
  After : (days : Days) (body : Contract) → Contract
  Let : (bound : Expression) (body : Contract) → Contract
  Within : (test : Expression) (days : Days) (hit miss : Contract) → Contract

abbrev pub expression : Expr → Expression
expression (Lit' s m) = Lit m s
expression (Yes' b) = Yes b
expression (Var' k) = Var k
expression (Obs' l t) = Obs l t
expression (Neg' p e) = Neg (expression e)
expression (Num' op p a q b) = Num op (expression a) (expression b)
expression (Cmp' op p a q b) = Cmp op (expression a) (expression b)
expression (Not' p e) = Not (expression e)
expression (Logic' op p a q b) = Logic op (expression a) (expression b)
expression (Cond' p t q a r b) = Cond (expression t) (expression a) (expression b)
expression (Widen' s p e) = Widen s (expression e)
expression (Round' mode s p e) = Round mode s (expression e)
expression (Div' mode s p a q b) = Div mode s (expression a) (expression b)
expression (Acc' p body n q first) = Acc (expression body) n (expression first)

abbrev pub contract : Contr → Contract
contract Zero' = Zero
contract (Pay' x p q) = Pay x p q
contract (Both' p a q b) = Both (contract a) (contract b)
contract (Scale' e p c) = Scale (expression e) (contract c)
contract (After' n p c) = After (day_count n) (contract c)
contract (Let' e p c) = Let (expression e) (contract c)
contract (Within' e n p a q b) = Within (expression e) (day_count n) (contract a) (contract b)
