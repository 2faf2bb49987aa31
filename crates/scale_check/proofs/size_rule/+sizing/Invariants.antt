use Rattle.std.proofs.Common.{◌+◌, ◌*◌, max}
use Rattle.term_model.specs.declared.terms.Expr.{size-Expr}
use Rattle.scale_check.proofs.size_rule.+sizing.Given as goal

abbrev pub decreases-size_of_expr : goal.decreases-size_of_expr
decreases-size_of_expr l = 2 * size-Expr l.e.now

abbrev pub decreases-size_over_one : goal.decreases-size_over_one
decreases-size_over_one l = 2 * size-Expr l.of.now + 1

abbrev pub decreases-size_over_two : goal.decreases-size_over_two
decreases-size_over_two l = 2 * max (size-Expr l.left.now) (size-Expr l.right.now) + 1

abbrev pub decreases-size_over_three : goal.decreases-size_over_three
decreases-size_over_three l = 2 * max (size-Expr l.test.now) (max (size-Expr l.yes.now) (size-Expr l.no.now)) + 1

abbrev pub decreases-size_over_days : goal.decreases-size_over_days
decreases-size_over_days l = 2 * max (size-Expr l.body.now) (size-Expr l.first.now) + 1
