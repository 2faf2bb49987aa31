-- The evaluator by the program's values: what it answers of an expression on a day, over fixings and among bound
-- names, and what it needs so that numbers fit 128 bits and days 64.
use Rattle.std.specs.Prelude.{ℕ, ℤ, pos, ◌+ℤ◌, List}
use Rattle.term_model.specs.Declarations.{Declarations, declarations}
use Rattle.term_model.specs.declared.decls.Decls.{Decls}
use Rattle.term_model.specs.declared.terms.Expr.{Expr}
use Rattle.decimal.specs.declared.rounding.Mode.{Mode}
use Rattle.term_model.specs.declared.terms.NumOp.{NumOp}
use Rattle.term_model.specs.declared.terms.CmpOp.{CmpOp}
use Rattle.term_model.specs.declared.terms.LogicOp.{LogicOp}
use Rattle.term_model.specs.declared.values.Kind.{Kind}
use Rattle.term_model.specs.Terms.{Expression, expression, Num, Cmp, Logic, Cond, Div}
use Rattle.term_model.specs.Environments.{Environment}
use Rattle.interval_check.specs.RangeTrials.{kind_found}
use Rattle.expr_eval.specs.declared.scratch.Binding.{Binding}
use Rattle.expr_eval.specs.declared.bindings.Bindings.{Bindings}
use Rattle.expr_eval.specs.declared.trials.Comparison.{Comparison}
use Rattle.expr_eval.specs.Rooms.{kinds_of}
use Rattle.expr_eval.specs.Bindings.{bindings}
use Rattle.expr_eval.specs.KindScales.{KindFits}
use Rattle.expr_eval.specs.Runs.{Answer, days_run, run_of, untyped}
use Rattle.expr_eval.specs.Fits.{DaysFitIn, Fits}
use Rattle.expr_eval.specs.Comparing.{ComparesOn}
use Rattle.expr_eval.specs.Trials.{DayOrMissing, first_tried}

-- the value of an expression with its kind, or the first place that is not fixed
abbrev pub answer_in : Decls → Expression → Bindings → Environment → ℤ → Answer
answer_in decls e names fixings day = run_of (declarations decls) e (bindings names) fixings day

abbrev pub FitsIn : Decls → Expression → Bindings → Environment → ℤ → Type 0
FitsIn decls e names fixings day = Fits (declarations decls) e (bindings names) fixings day

-- ---- kinds, by the forms of expressions

abbrev pub kinds_in : Bindings → List Kind
kinds_in names = kinds_of (bindings names)

abbrev pub kind_in : Decls → Expression → Bindings → Kind
kind_in decls e names = kind_found (declarations decls) e (kinds_in names)

abbrev pub KindFitsIn : Decls → Expression → Bindings → Type 0
KindFitsIn decls e names = KindFits (declarations decls) e (kinds_in names)

-- ---- the forms whose parts are evaluated apart

abbrev pub combination_over : NumOp → Expr → Expr → Expression
combination_over op left right = Num op (expression left) (expression right)

abbrev pub comparison_over : CmpOp → Expr → Expr → Expression
comparison_over op left right = Cmp op (expression left) (expression right)

abbrev pub quotient_over : Mode → ℕ → Expr → Expr → Expression
quotient_over mode scale top below = Div mode scale (expression top) (expression below)

abbrev pub logic_over : LogicOp → Expr → Expr → Expression
logic_over op left right = Logic op (expression left) (expression right)

abbrev pub conditional_over : Expr → Expr → Expr → Expression
conditional_over t a b = Cond (expression t) (expression a) (expression b)

abbrev pub comparison : Comparison → Expression
comparison test = Cmp test.op (expression test.left.now) (expression test.right.now)

-- the days of an accumulator, from the value of its start on the day before them
abbrev pub days_from : Declarations → Expr → Expr → List Binding → Environment → ℤ → ℕ → Answer
days_from d body first g env from n = days_run d (expression body) g env from n (run_of d (expression first) g env from)

abbrev pub DaysFitFrom : Declarations → Expr → Expr → List Binding → Environment → ℤ → ℕ → Type 0
DaysFitFrom d body first g env from n = DaysFitIn d (expression body) g env from n (run_of d (expression first) g env from)

-- ---- tests, day after day

-- both sides of a comparison fit on a day, and so do their numbers
abbrev pub ComparesIn : Decls → Comparison → Bindings → Environment → ℤ → Type 0
ComparesIn decls test names fixings day =
    ComparesOn (declarations decls) (expression test.left.now) (expression test.right.now) test.by (bindings names) fixings day

-- the first of n days, from one on, on which a test is true
abbrev pub first_in : Decls → Expression → Bindings → Environment → ℤ → ℕ → DayOrMissing
first_in decls test names fixings from n =
    first_tried n (λ i. untyped (answer_in decls test names fixings (from +ℤ pos i)))
