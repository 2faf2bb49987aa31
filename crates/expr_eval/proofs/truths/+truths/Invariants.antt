use Rattle.std.proofs.Common.{◌≡◌, ◌+◌, ◌*◌, max, Ok}
use Rattle.term_model.specs.declared.terms.Expr.{size-Expr}
use Rattle.term_model.specs.Declarations.{declarations}
use Rattle.term_model.specs.Terms.{expression}
use Rattle.expr_eval.specs.Bindings.{bindings}
use Rattle.expr_eval.specs.Runs.{days_run}
use Rattle.expr_eval.proofs.truths.+truths.Given as goal

abbrev pub decreases-holds : goal.decreases-holds
decreases-holds l = 4 * size-Expr l.test.now

abbrev pub decreases-holds_not : goal.decreases-holds_not
decreases-holds_not l = 4 * size-Expr l.of.now + 1

abbrev pub decreases-holds_joined : goal.decreases-holds_joined
decreases-holds_joined l = 4 * max (size-Expr l.left.now) (size-Expr l.right.now) + 1

abbrev pub decreases-holds_after : goal.decreases-holds_after
decreases-holds_after l = 4 * size-Expr l.body.now + 3

abbrev pub decreases-verdict_after : goal.decreases-verdict_after
decreases-verdict_after l = 4 * size-Expr l.body.now + 2

abbrev pub decreases-holds_then : goal.decreases-holds_then
decreases-holds_then l = 4 * size-Expr l.body.now + 1

abbrev pub invariant-verdict_after-loop-i : goal.invariant-verdict_after-loop-i
invariant-verdict_after-loop-i l =
    days_run (declarations l.decls) (expression l.body) (bindings l.names) l.fixings l.from l.i (Ok l.fn.start) ≡ Ok l.value
