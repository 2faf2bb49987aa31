use Rattle.std.proofs.Common.{◌+◌, ◌*◌, max}
use Rattle.term_model.specs.Terms.{expression}
use Rattle.term_model.specs.Sizes.{height}
use Rattle.contract_print.proofs.exprs.+expr.Given as goal

abbrev pub decreases-append_expr : goal.decreases-append_expr
decreases-append_expr g l = 4 * height (expression l.e.now)

abbrev pub decreases-append_last : goal.decreases-append_last
decreases-append_last g l = 4 * height (expression l.e.now) + 1

abbrev pub decreases-append_last_two : goal.decreases-append_last_two
decreases-append_last_two g l = 4 * max (height (expression l.left.now)) (height (expression l.right.now)) + 2

abbrev pub decreases-append_one : goal.decreases-append_one
decreases-append_one g l = 4 * height (expression l.of.now) + 2

abbrev pub decreases-append_two : goal.decreases-append_two
decreases-append_two g l = 4 * max (height (expression l.left.now)) (height (expression l.right.now)) + 3
