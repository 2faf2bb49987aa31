use Rattle.std.proofs.Common.{◌+◌, ◌*◌, max}
use Rattle.term_model.specs.declared.terms.Expr.{size-Expr}
use Rattle.simplify.proofs.turns.+turning.Given as goal

abbrev pub decreases-turn : goal.decreases-turn
decreases-turn l = 2 * size-Expr l.e.now

abbrev pub decreases-turn_one : goal.decreases-turn_one
decreases-turn_one l = 2 * size-Expr l.part.now + 1

abbrev pub decreases-turn_two : goal.decreases-turn_two
decreases-turn_two l = 2 * max (size-Expr l.left.now) (size-Expr l.right.now) + 1

abbrev pub decreases-turn_sides : goal.decreases-turn_sides
decreases-turn_sides l = 2 * max (size-Expr l.left.now) (size-Expr l.right.now) + 1

abbrev pub decreases-turn_branches : goal.decreases-turn_branches
decreases-turn_branches l = 2 * max (size-Expr l.test.now) (max (size-Expr l.yes.now) (size-Expr l.no.now)) + 1

abbrev pub decreases-turn_steps : goal.decreases-turn_steps
decreases-turn_steps l = 2 * max (size-Expr l.body.now) (size-Expr l.first.now) + 1
