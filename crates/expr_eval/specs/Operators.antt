-- What is done with the value of the one part of an expression, and what it asks of it.
use Rattle.std.specs.Prelude.{ℤ, not, List, Ok}
use Rattle.term_model.specs.Declarations.{Declarations}
use Rattle.term_model.specs.Terms.{Expression}
use Rattle.term_model.specs.Environments.{Environment}
use Rattle.expr_eval.specs.declared.scratch.Binding.{Binding}
use Rattle.expr_eval.specs.declared.operations.Typed.{Typed}
use Rattle.expr_eval.specs.declared.operators.OnOne.{OnOne}
use Rattle.expr_eval.specs.declared.operators.OnOne.TheVariants.{Negative, Opposite, At, Rounded}
use Rattle.expr_eval.specs.Operations.{FitsKind, Negates, RoundsTo, at_kind, negated, rounded, truth_in, verdict}
use Rattle.expr_eval.specs.Runs.{Answer, run_of, then_do}
use Rattle.expr_eval.specs.Fits.{Fits, OnValue}

abbrev pub of_one : OnOne → Typed → Typed
of_one Negative v = negated v
of_one Opposite v = verdict (not (truth_in v))
of_one (At k) v = at_kind k v
of_one (Rounded mode s) v = rounded mode s v

abbrev pub FitsOne : OnOne → Typed → Type 0
FitsOne Negative v = Negates v
FitsOne Opposite v = Unit {0}
FitsOne (At k) v = FitsKind k v
FitsOne (Rounded mode s) v = RoundsTo s v

-- what a part of an expression makes of it on a day, and what it needs
abbrev pub one_run : Declarations → OnOne → Expression → List Binding → Environment → ℤ → Answer
one_run d op e g env f = then_do (run_of d e g env f) (λ v. Ok (of_one op v))

abbrev pub OneFits : Declarations → OnOne → Expression → List Binding → Environment → ℤ → Type 0
OneFits d op e g env f = Fits d e g env f × OnValue (run_of d e g env f) (FitsOne op)
