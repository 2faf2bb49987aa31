use Rattle.std.proofs.Common.{◌≤◌, ◌+◌, ◌-◌, ◌*◌, max}
use Rattle.term_model.specs.declared.terms.Expr.{size-Expr}
use Rattle.expr_eval.specs.declared.stops.Stop.TheVariants.{Never}
use Rattle.expr_eval.specs.Searches.{IsStopOfEither}
use Rattle.expr_eval.proofs.searches.+searches.Given as goal

abbrev pub decreases-search : goal.decreases-search
decreases-search l = 3 * size-Expr l.test.now

abbrev pub decreases-search_joined : goal.decreases-search_joined
decreases-search_joined l = 3 * max (size-Expr l.left.now) (size-Expr l.right.now) + 2

abbrev pub decreases-search_either : goal.decreases-search_either
decreases-search_either l = 3 * max (size-Expr l.left.now) (size-Expr l.right.now) + 1

abbrev pub decreases-search_joined-loop-done : goal.decreases-search_joined-loop-done
decreases-search_joined-loop-done l = l.days - l.done

abbrev pub invariant-search_joined-loop-done : goal.invariant-search_joined-loop-done
invariant-search_joined-loop-done l =
    (l.done ≤ l.days) × IsStopOfEither l.decls l.left l.right l.wanted l.names l.fixings l.from l.done Never
