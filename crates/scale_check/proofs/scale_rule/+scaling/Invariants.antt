use Rattle.std.proofs.Common.{◌+◌, ◌*◌, max}
use Rattle.term_model.specs.declared.terms.Expr.{size-Expr}
use Rattle.scale_check.proofs.scale_rule.+scaling.Given as goal

abbrev pub decreases-scale_of_expr : goal.decreases-scale_of_expr
decreases-scale_of_expr l = 2 * size-Expr l.e.now

abbrev pub decreases-try_two : goal.decreases-try_two
decreases-try_two l = 2 * max (size-Expr l.left.now) (size-Expr l.right.now) + 1

abbrev pub decreases-scale_of_choice : goal.decreases-scale_of_choice
decreases-scale_of_choice l = 2 * max (size-Expr l.test.now) (max (size-Expr l.yes.now) (size-Expr l.no.now)) + 1

abbrev pub decreases-scale_of_run : goal.decreases-scale_of_run
decreases-scale_of_run l = 2 * max (size-Expr l.body.now) (size-Expr l.first.now) + 1
