use Rattle.std.proofs.Common.{◌+◌, ◌*◌, max}
use Rattle.term_model.specs.declared.terms.Expr.{size-Expr}
use Rattle.term_model.proofs.shifts.+moving.Given as goal

abbrev pub decreases-moved : goal.decreases-moved
decreases-moved l = 3 * size-Expr l.e.now

abbrev pub decreases-moved_part : goal.decreases-moved_part
decreases-moved_part l = 3 * size-Expr l.part.now + 1

abbrev pub decreases-moved_one : goal.decreases-moved_one
decreases-moved_one l = 3 * size-Expr l.part.now + 2

abbrev pub decreases-moved_two : goal.decreases-moved_two
decreases-moved_two l = 3 * max (size-Expr l.left.now) (size-Expr l.right.now) + 2

abbrev pub decreases-moved_choice : goal.decreases-moved_choice
decreases-moved_choice l = 3 * max (size-Expr l.test.now) (max (size-Expr l.yes.now) (size-Expr l.no.now)) + 2
