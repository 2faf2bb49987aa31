use Rattle.std.proofs.Common.{◌+◌, ◌*◌, max}
use Rattle.term_model.specs.declared.terms.Expr.{size-Expr}
use Rattle.time_types.proofs.sort_rule.+sorting.Given as goal

abbrev pub decreases-sort_of_expr : goal.decreases-sort_of_expr
decreases-sort_of_expr l = 2 * size-Expr l.e.now

abbrev pub decreases-sort_of_one : goal.decreases-sort_of_one
decreases-sort_of_one l = 2 * size-Expr l.of.now + 1

abbrev pub decreases-sort_of_two : goal.decreases-sort_of_two
decreases-sort_of_two l = 2 * max (size-Expr l.left.now) (size-Expr l.right.now) + 1

abbrev pub decreases-sort_of_choice : goal.decreases-sort_of_choice
decreases-sort_of_choice l =
    2 * max (size-Expr l.test.now) (max (size-Expr l.yes.now) (size-Expr l.no.now)) + 1

abbrev pub decreases-sort_of_steps : goal.decreases-sort_of_steps
decreases-sort_of_steps l = 2 * max (size-Expr l.body.now) (size-Expr l.first.now) + 1
