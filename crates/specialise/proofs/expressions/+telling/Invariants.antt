use Rattle.std.proofs.Common.{◌+◌, ◌*◌, max}
use Rattle.term_model.specs.declared.terms.Expr.{size-Expr}
use Rattle.specialise.proofs.expressions.+telling.Given as goal

abbrev pub decreases-specialise_at : goal.decreases-specialise_at
decreases-specialise_at l = 2 * size-Expr l.e.now

abbrev pub decreases-specialise_one : goal.decreases-specialise_one
decreases-specialise_one l = 2 * size-Expr l.part.now + 1

abbrev pub decreases-specialise_two : goal.decreases-specialise_two
decreases-specialise_two l = 2 * max (size-Expr l.left.now) (size-Expr l.right.now) + 1

abbrev pub decreases-specialise_three : goal.decreases-specialise_three
decreases-specialise_three l = 2 * max (size-Expr l.test.now) (max (size-Expr l.yes.now) (size-Expr l.no.now)) + 1

abbrev pub decreases-specialise_steps : goal.decreases-specialise_steps
decreases-specialise_steps l = 2 * size-Expr l.first.now + 1
