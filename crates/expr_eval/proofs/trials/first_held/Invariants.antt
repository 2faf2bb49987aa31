use Rattle.std.proofs.Common.{◌≡◌, ◌+ℤ◌, pos, Ok, None}
use Rattle.term_model.specs.Declarations.{declarations}
use Rattle.term_model.specs.Terms.{expression}
use Rattle.expr_eval.specs.Bindings.{bindings}
use Rattle.expr_eval.specs.Runs.{run_of, untyped}
use Rattle.expr_eval.specs.Trials.{first_tried}
use Rattle.expr_eval.proofs.trials.first_held.Given as goal

abbrev pub invariant-loop-i : goal.invariant-loop-i
invariant-loop-i l =
    first_tried l.i (λ i. untyped (run_of (declarations l.fn.decls) (expression l.fn.test) (bindings l.fn.names) l.fn.fixings (l.fn.from +ℤ pos i))) ≡ Ok None
