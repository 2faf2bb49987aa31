use Rattle.std.proofs.Common.{◌+◌, ◌*◌, max}
use Rattle.payoff_terms.specs.declared.code.Vx.{size-Vx}
use Rattle.payoff_check.proofs.undated.+undated.Given as goal

abbrev pub decreases-undated_of : goal.decreases-undated_of
decreases-undated_of l = 3 * size-Vx l.v.now

abbrev pub decreases-undated_boxed : goal.decreases-undated_boxed
decreases-undated_boxed l = 3 * size-Vx l.v.now + 1

abbrev pub decreases-undated_negative : goal.decreases-undated_negative
decreases-undated_negative l = 3 * size-Vx l.of.now + 2

abbrev pub decreases-undated_num : goal.decreases-undated_num
decreases-undated_num l = 3 * max (size-Vx l.left.now) (size-Vx l.right.now) + 2

abbrev pub decreases-undated_cmp : goal.decreases-undated_cmp
decreases-undated_cmp l = 3 * max (size-Vx l.left.now) (size-Vx l.right.now) + 2

abbrev pub decreases-undated_not : goal.decreases-undated_not
decreases-undated_not l = 3 * size-Vx l.of.now + 2

abbrev pub decreases-undated_logic : goal.decreases-undated_logic
decreases-undated_logic l = 3 * max (size-Vx l.left.now) (size-Vx l.right.now) + 2

abbrev pub decreases-undated_choice : goal.decreases-undated_choice
decreases-undated_choice l = 3 * max (size-Vx l.test.now) (max (size-Vx l.yes.now) (size-Vx l.no.now)) + 2

abbrev pub decreases-undated_widened : goal.decreases-undated_widened
decreases-undated_widened l = 3 * size-Vx l.of.now + 2

abbrev pub decreases-undated_rounded : goal.decreases-undated_rounded
decreases-undated_rounded l = 3 * size-Vx l.of.now + 2

abbrev pub decreases-undated_quotient : goal.decreases-undated_quotient
decreases-undated_quotient l = 3 * max (size-Vx l.top.now) (size-Vx l.below.now) + 2

abbrev pub decreases-undated_acc : goal.decreases-undated_acc
decreases-undated_acc l = 3 * max (size-Vx l.body.now) (size-Vx l.first.now) + 2
