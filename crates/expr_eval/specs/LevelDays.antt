-- Level expressions by the program's values.
use Rattle.std.specs.Prelude.{ℕ, ℤ, ◌≡◌, true, Result}
use Rattle.term_model.specs.Declarations.{declarations}
use Rattle.term_model.specs.declared.decls.Decls.{Decls}
use Rattle.term_model.specs.declared.terms.Expr.{Expr}
use Rattle.term_model.specs.declared.values.Missing.{Missing}
use Rattle.term_model.specs.Terms.{Expression, expression}
use Rattle.term_model.specs.Environments.{Environment}
use Rattle.expr_eval.specs.declared.operations.Typed.{Typed}
use Rattle.expr_eval.specs.declared.bindings.Bindings.{Bindings}
use Rattle.expr_eval.specs.Bindings.{bindings}
use Rattle.expr_eval.specs.Comparing.{number_found}
use Rattle.expr_eval.specs.Evaluations.{answer_in, kinds_in}
use Rattle.expr_eval.specs.Levels.{is_level, stays_level}

-- the mantissa of an expression on a day, or the first place that is not fixed
abbrev pub number_of : Decls → Expression → Bindings → Environment → ℤ → Result ℤ Missing
number_of decls e names fixings day = number_found (answer_in decls e names fixings day)

-- an expression is level at some scale
pub record IsLevel (decls : Decls) (e : Expression) (names : Bindings) : Type 0 where
  pub scale : ℕ
  pub level : is_level (declarations decls) e (kinds_in names) scale ≡ true

-- an accumulator with this body keeps the scale of the number that it has
abbrev pub StaysLevel : Decls → Expr → Bindings → Typed → Type 0
StaysLevel decls body names value = stays_level (declarations decls) (expression body) (bindings names) value ≡ true
