use Rattle.std.proofs.Common.{◌+◌, ◌*◌, max}
use Rattle.term_model.specs.declared.terms.Expr.{size-Expr}
use Rattle.expr_eval.proofs.sums.+making.Given as goal

abbrev pub decreases-made : goal.decreases-made
decreases-made l = 2 * size-Expr l.e.now

abbrev pub decreases-made_of : goal.decreases-made_of
decreases-made_of l = 2 * max (size-Expr l.left.now) (size-Expr l.right.now) + 1
