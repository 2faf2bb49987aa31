-- A value expression is an expression of the contract language once each date has its day: `model` of a date reads the
-- observable so many days after the base. At a setting the days are those of the setting; the undated expression has day 0
-- everywhere, and by it value expressions have their kinds, scales, sizes and intervals, which no date has a part in.
use Rattle.std.specs.Prelude.{ℕ, ℤ, pos, ◌+ℤ◌, ◌≤◌, unsigned_abs, List}
use Rattle.term_model.specs.Terms.{Expression, Lit as Lit', Yes as Yes', Var as Var', Obs as Obs', Neg as Neg', Num as Num', Cmp as Cmp', Not as Not', Logic as Logic', Cond as Cond', Widen as Widen', Round as Round', Div as Div', Acc as Acc'}
use Rattle.payoff_terms.specs.TemplateDates.{Date, day_of}
use Rattle.payoff_terms.specs.Code.{ValueExpression, Lit, Yes, Var, Model, Neg, Num, Cmp, Not, Logic, Cond, Widen, Round, Div, Acc}

abbrev pub dated_by : (Date → ℤ) → ValueExpression → Expression
dated_by day (Lit m s) = Lit' m s
dated_by day (Yes b) = Yes' b
dated_by day (Var back) = Var' back
dated_by day (Model l x) = Obs' l (day x)
dated_by day (Neg e) = Neg' (dated_by day e)
dated_by day (Num op a b) = Num' op (dated_by day a) (dated_by day b)
dated_by day (Cmp op a b) = Cmp' op (dated_by day a) (dated_by day b)
dated_by day (Not e) = Not' (dated_by day e)
dated_by day (Logic op a b) = Logic' op (dated_by day a) (dated_by day b)
dated_by day (Cond t a b) = Cond' (dated_by day t) (dated_by day a) (dated_by day b)
dated_by day (Widen s e) = Widen' s (dated_by day e)
dated_by day (Round mode s e) = Round' mode s (dated_by day e)
dated_by day (Div mode s a b) = Div' mode s (dated_by day a) (dated_by day b)
dated_by day (Acc body n first) = Acc' (dated_by day body) n (dated_by day first)

abbrev pub at_setting : List ℕ → ValueExpression → Expression
at_setting xs v = dated_by (day_of xs) v

abbrev pub undated : ValueExpression → Expression
undated v = dated_by (λ _. pos 0) v

-- the other way round: the value expression of an expression, once each offset has a date
abbrev pub with_date : (ℤ → Date) → Expression → ValueExpression
with_date on (Lit' m s) = Lit m s
with_date on (Yes' b) = Yes b
with_date on (Var' back) = Var back
with_date on (Obs' l t) = Model l (on t)
with_date on (Neg' e) = Neg (with_date on e)
with_date on (Num' op a b) = Num op (with_date on a) (with_date on b)
with_date on (Cmp' op a b) = Cmp op (with_date on a) (with_date on b)
with_date on (Not' e) = Not (with_date on e)
with_date on (Logic' op a b) = Logic op (with_date on a) (with_date on b)
with_date on (Cond' t a b) = Cond (with_date on t) (with_date on a) (with_date on b)
with_date on (Widen' s e) = Widen s (with_date on e)
with_date on (Round' mode s e) = Round mode s (with_date on e)
with_date on (Div' mode s a b) = Div mode s (with_date on a) (with_date on b)
with_date on (Acc' body n first) = Acc (with_date on body) n (with_date on first)

-- where each offset has one
abbrev pub HaveDates : (ℤ → Type 0) → Expression → Type 0
HaveDates has (Obs' l t) = has t
HaveDates has (Neg' e) = HaveDates has e
HaveDates has (Num' op a b) = HaveDates has a × HaveDates has b
HaveDates has (Cmp' op a b) = HaveDates has a × HaveDates has b
HaveDates has (Not' e) = HaveDates has e
HaveDates has (Logic' op a b) = HaveDates has a × HaveDates has b
HaveDates has (Cond' t a b) = HaveDates has t × HaveDates has a × HaveDates has b
HaveDates has (Widen' s e) = HaveDates has e
HaveDates has (Round' mode s e) = HaveDates has e
HaveDates has (Div' mode s a b) = HaveDates has a × HaveDates has b
HaveDates has (Acc' body n first) = HaveDates has body × HaveDates has first
HaveDates has e = Unit {0}

-- a date of so many days may go on by an offset
abbrev pub MayMove : ℤ → ℤ → Type 0
MayMove days t = unsigned_abs (days +ℤ t) ≤ 2_000_000
