-- The truth values of tests, without kinds; and the bodies of accumulators that have no other values.
use Rattle.std.specs.Prelude.{ℕ, ℤ, Bool, true, false, ◌∷◌, Option, Some, None, Result, Ok, Err}
use Rattle.term_model.specs.Declarations.{declarations}
use Rattle.term_model.specs.declared.decls.Decls.{Decls}
use Rattle.term_model.specs.declared.terms.Expr.{Expr}
use Rattle.term_model.specs.declared.values.Value.{Value}
use Rattle.term_model.specs.declared.values.Missing.{Missing}
use Rattle.term_model.specs.Terms.{Expression, expression, Yes, Cmp, Not, Logic}
use Rattle.term_model.specs.Environments.{Environment}
use Rattle.term_model.specs.Values.{truth}
use Rattle.expr_eval.specs.declared.operations.Typed.{Typed}
use Rattle.expr_eval.specs.declared.bindings.Bindings.{Bindings}
use Rattle.expr_eval.specs.Bindings.{bindings}
use Rattle.expr_eval.specs.Runs.{Answer, bound_to, days_run, run_of}
use Rattle.expr_eval.specs.Comparing.{truth_found}
use Rattle.expr_eval.specs.Fits.{DayFitsIn, DaysFitIn}
use Rattle.expr_eval.specs.Evaluations.{DaysFitFrom, answer_in, days_from}

-- the truth value of what is held at a place
abbrev pub truth_held : Option Value → ℕ → ℤ → Result Bool Missing
truth_held (Some v) l t = Ok (truth v)
truth_held None l t = Err (record { label = l; day = t })

-- the truth value of an expression on a day, or the first place that is not fixed
abbrev pub truth_of : Decls → Expression → Bindings → Environment → ℤ → Result Bool Missing
truth_of decls e names fixings day = truth_found (answer_in decls e names fixings day)

abbrev pub opposite_of : Expr → Expression
opposite_of e = Not (expression e)

-- by its form alone, each value of an expression is a truth value
abbrev pub is_verdict : Expression → Bool
is_verdict (Yes b) = true
is_verdict (Cmp op a b) = true
is_verdict (Not e) = true
is_verdict (Logic op a b) = true
is_verdict _ = false

-- ---- a test that is an accumulator

-- what it needs on its days, from the value of its start on the day before them
abbrev pub DaysFitAfter : Decls → Expr → Expr → Bindings → Environment → ℤ → ℕ → Type 0
DaysFitAfter decls body first names fixings from n = DaysFitFrom (declarations decls) body first (bindings names) fixings from n

-- its value after them, and the truth of it
abbrev pub answer_after : Decls → Expr → Expr → Bindings → Environment → ℤ → ℕ → Answer
answer_after decls body first names fixings from n = days_from (declarations decls) body first (bindings names) fixings from n

abbrev pub truth_after : Decls → Expr → Expr → Bindings → Environment → ℤ → ℕ → Result Bool Missing
truth_after decls body first names fixings from n = truth_found (answer_after decls body first names fixings from n)

-- the same from the value of its start
abbrev pub DaysFitOf : Decls → Expr → Typed → Bindings → Environment → ℤ → ℕ → Type 0
DaysFitOf decls body start names fixings from n =
    DaysFitIn (declarations decls) (expression body) (bindings names) fixings from n (Ok start)

abbrev pub truth_from : Decls → Expr → Typed → Bindings → Environment → ℤ → ℕ → Result Bool Missing
truth_from decls body start names fixings from n =
    truth_found (days_run (declarations decls) (expression body) (bindings names) fixings from n (Ok start))

-- what its body needs on a day, with a value for its name, and its truth value then
abbrev pub DayFitsWith : Decls → Expr → Typed → Bindings → Environment → ℤ → Type 0
DayFitsWith decls body value names fixings day = DayFitsIn (declarations decls) (expression body) (bindings names) fixings day value

abbrev pub truth_with : Decls → Expr → Typed → Bindings → Environment → ℤ → Result Bool Missing
truth_with decls body value names fixings day =
    truth_found (run_of (declarations decls) (expression body) (bound_to value ∷ bindings names) fixings day)
