-- Accumulators that stay level and add, on each day, what one observable and literals make.
use Rattle.std.specs.Prelude.{ℕ, ℤ, ◌==◌, ◌&&◌, ◌≡◌, Bool, true, false, Ok}
use Rattle.std.specs.Ordering.{int_eq}
use Rattle.term_model.specs.Declarations.{declarations}
use Rattle.term_model.specs.declared.decls.Decls.{Decls}
use Rattle.term_model.specs.declared.terms.NumOp.TheVariants.{Plus}
use Rattle.term_model.specs.declared.values.Value.TheVariants.{Num as Amount}
use Rattle.term_model.specs.Terms.{Expression, Lit, Var, Obs, Num}
use Rattle.term_model.specs.Environments.{Environment}
use Rattle.term_model.specs.Values.{num_op}
use Rattle.expr_eval.specs.declared.operations.Typed.{Typed}
use Rattle.expr_eval.specs.declared.bindings.Bindings.{Bindings}
use Rattle.expr_eval.specs.declared.sums.Observed.{Observed}
use Rattle.expr_eval.specs.Bindings.{bindings}
use Rattle.expr_eval.specs.Levels.{stays_level}
use Rattle.expr_eval.specs.Runs.{days_run}

-- an expression is made of this observable and of literals
abbrev pub is_over : Observed → Expression → Bool
is_over o (Lit m s) = true
is_over o (Obs l t) = (l == o.label) && int_eq t o.offset
is_over o (Num op a b) = is_over o a && is_over o b
is_over o _ = false

-- and its number, where all parts have one scale, by that of what is observed
abbrev pub made : Expression → ℤ → ℤ
made (Lit m s) x = m
made (Num op a b) x = num_op op (made a x) (made b x)
made _ x = x

-- the body of an accumulator that adds an expression on each day
abbrev pub adding : Expression → Expression
adding part = Num Plus (Var 0) part

-- n days after its start an accumulator that stays level has this value
abbrev pub IsAfter : Expression → Typed → Environment → ℤ → ℕ → Typed → Type 0
IsAfter body start fixings from n value =
    (decls : Decls) (names : Bindings)
    → stays_level (declarations decls) body (bindings names) start ≡ true
    → days_run (declarations decls) body (bindings names) fixings from n (Ok start) ≡ Ok value

-- and this number, where it adds an expression on each day
abbrev pub IsSum : Expression → Typed → Environment → ℤ → ℕ → ℤ → Type 0
IsSum part start fixings from n sum =
    IsAfter (adding part) start fixings from n (record { kind = start.kind; value = Amount sum })
