-- The evaluator of code by the program's values: what it answers of what is asked, and what it needs so that numbers fit
-- 128 bits and days 64.
use Rattle.std.specs.Prelude.{ℕ, ℤ, pos, ◌+ℤ◌, ◌≤◌, List, Result}
use Rattle.term_model.specs.Declarations.{declarations}
use Rattle.term_model.specs.declared.values.Kind.{Kind}
use Rattle.term_model.specs.declared.values.Missing.{Missing}
use Rattle.term_model.specs.declared.terms.LogicOp.{LogicOp}
use Rattle.term_model.specs.Terms.{Expression, Logic, Cond}
use Rattle.expr_eval.specs.declared.operations.Operands.{Operands}
use Rattle.expr_eval.specs.declared.operations.Typed.{Typed}
use Rattle.expr_eval.specs.declared.bindings.Bindings.{Bindings}
use Rattle.expr_eval.specs.declared.scratch.Binding.{Binding}
use Rattle.expr_eval.specs.Fits.{Fits, DayFitsIn, DaysFitIn}
use Rattle.expr_eval.specs.Runs.{Answer, run_of, both_run, day_run, days_run}
use Rattle.expr_eval.specs.Bindings.{bindings}
use Rattle.expr_eval.specs.Trials.{DayOrMissing, ValueOrMissing, first_tried}
use Rattle.expr_eval.specs.KindScales.{KindFits}
use Rattle.expr_eval.specs.Rooms.{kinds_of}
use Rattle.interval_check.specs.RangeTrials.{kind_found}
use Rattle.payoff_terms.specs.declared.code.Code.{Code}
use Rattle.payoff_terms.specs.declared.code.DateExpr.{DateExpr}
use Rattle.payoff_terms.specs.declared.code.Vx.{Vx}
use Rattle.payoff_terms.specs.TemplateDates.{date}
use Rattle.payoff_terms.specs.Code.{ValueExpression, PayoffCode, Add, ScaleBy, LetBe, Loop}
use Rattle.payoff_terms.specs.Code.{value_expression, payoff_code}
use Rattle.payoff_terms.specs.Dating.{at_setting}
use Rattle.payoff_terms.specs.CodeValues.{Asked}
use Rattle.payoff_eval.specs.DatesFit.{DatesFit}
use Rattle.payoff_eval.specs.Questions.{asked_on}
use Rattle.payoff_eval.specs.Walks.{WorthOrMissing}
use Rattle.payoff_eval.specs.CodeRuns.{CodeFits, ValueFits, answer_of, run_code}
use Rattle.payoff_eval.specs.declared.asking.Asking.{Asking}

-- what the program's question stands for
abbrev pub asked_of : Asking → Asked
asked_of q = asked_on q.curve.now q.today q.from q.to q.asset

-- a value expression at the setting: an expression of the contract language
abbrev pub dated : Asking → Vx → Expression
dated q e = at_setting q.setting.now (value_expression e)

abbrev pub HasDates : Asking → Vx → Type 0
HasDates q e = DatesFit q.setting.now (value_expression e)

-- an evaluation of an expression on a day
abbrev pub run_on : Asking → Expression → Bindings → ℤ → Answer
run_on q e names f = run_of (declarations q.decls.now) e (bindings names) q.fixings.now f

abbrev pub FitsOn : Asking → Expression → Bindings → ℤ → Type 0
FitsOn q e names f = Fits (declarations q.decls.now) e (bindings names) q.fixings.now f

abbrev pub both_on : Asking → Expression → Expression → Bindings → ℤ → Result Operands Missing
both_on q x y names f = both_run (declarations q.decls.now) x y (bindings names) q.fixings.now f

-- the forms whose parts are evaluated apart
abbrev pub logic_over : Asking → LogicOp → Vx → Vx → Expression
logic_over q op x y = Logic op (dated q x) (dated q y)

abbrev pub conditional_over : Asking → Vx → Vx → Vx → Expression
conditional_over q t x y = Cond (dated q t) (dated q x) (dated q y)

-- a day of an accumulator with this body, and its first n days
abbrev pub day_run_on : Asking → Expression → Bindings → ℤ → Typed → Answer
day_run_on q body names at v = day_run (declarations q.decls.now) body (bindings names) q.fixings.now at v

abbrev pub DayFitsOn : Asking → Expression → Bindings → ℤ → Typed → Type 0
DayFitsOn q body names at v = DayFitsIn (declarations q.decls.now) body (bindings names) q.fixings.now at v

abbrev pub days_run_on : Asking → Expression → Bindings → ℤ → ℕ → Answer → Answer
days_run_on q body names from n start = days_run (declarations q.decls.now) body (bindings names) q.fixings.now from n start

abbrev pub DaysFitOn : Asking → Expression → Bindings → ℤ → ℕ → Answer → Type 0
DaysFitOn q body names from n start = DaysFitIn (declarations q.decls.now) body (bindings names) q.fixings.now from n start

-- an evaluation of a value expression at a base
abbrev pub answer : Asking → ValueExpression → List Binding → ℤ → ValueOrMissing
answer q v g b = answer_of (declarations q.decls.now) v g q.fixings.now q.setting.now b

abbrev pub EvaluatesOn : Asking → ValueExpression → List Binding → ℤ → Type 0
EvaluatesOn q v g b = ValueFits (declarations q.decls.now) v g q.fixings.now q.setting.now b

-- evaluations of a test on the days from a base on, and the first of n on which it is true
abbrev pub EvaluatesFrom : Asking → ValueExpression → List Binding → ℤ → Type 0
EvaluatesFrom q test g b = (i : ℕ) → i ≤ 100_000 → EvaluatesOn q test g (b +ℤ pos i)

abbrev pub first_from : Asking → ValueExpression → List Binding → ℤ → ℕ → DayOrMissing
first_from q test g b n = first_tried n (λ i. answer q test g (b +ℤ pos i))

-- the kind of a value expression
abbrev pub kind_on : Asking → ValueExpression → List Binding → Kind
kind_on q v g = kind_found (declarations q.decls.now) (at_setting q.setting.now v) (kinds_of g)

abbrev pub HasKindOn : Asking → ValueExpression → List Binding → Type 0
HasKindOn q v g = KindFits (declarations q.decls.now) (at_setting q.setting.now v) (kinds_of g)

-- code by the program's parts
abbrev pub add_code : Code → Code → PayoffCode
add_code k l = Add (payoff_code k) (payoff_code l)

abbrev pub scale_code : Vx → Code → PayoffCode
scale_code v k = ScaleBy (value_expression v) (payoff_code k)

abbrev pub let_code : Vx → Code → PayoffCode
let_code v k = LetBe (value_expression v) (payoff_code k)

abbrev pub loop_code : Vx → DateExpr → Code → Code → PayoffCode
loop_code v x k l = Loop (value_expression v) (date x) (payoff_code k) (payoff_code l)

-- a walk over code at a base
abbrev pub worth_on : Asking → ℕ → PayoffCode → List Binding → ℤ → WorthOrMissing
worth_on q decimals k g b = run_code (declarations q.decls.now) decimals k g q.fixings.now q.setting.now (asked_of q) b

abbrev pub WalksOn : Asking → ℕ → PayoffCode → List Binding → ℤ → Type 0
WalksOn q decimals k g b = CodeFits (declarations q.decls.now) decimals k g q.fixings.now q.setting.now (asked_of q) b
