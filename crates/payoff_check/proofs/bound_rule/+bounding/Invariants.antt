use Rattle.std.proofs.Common.{◌+◌, ◌*◌, max}
use Rattle.payoff_terms.specs.declared.code.Code.{size-Code}
use Rattle.payoff_check.proofs.bound_rule.+bounding.Given as goal

abbrev pub decreases-bounds_of : goal.decreases-bounds_of
decreases-bounds_of l = 2 * size-Code l.k.now

abbrev pub decreases-bound_of_sum : goal.decreases-bound_of_sum
decreases-bound_of_sum l = 2 * max (size-Code l.left.now) (size-Code l.right.now) + 1

abbrev pub decreases-bound_of_product : goal.decreases-bound_of_product
decreases-bound_of_product l = 2 * size-Code l.body.now + 1

abbrev pub decreases-bound_of_let : goal.decreases-bound_of_let
decreases-bound_of_let l = 2 * size-Code l.body.now + 1

abbrev pub decreases-bound_of_loop : goal.decreases-bound_of_loop
decreases-bound_of_loop l = 2 * max (size-Code l.hit.now) (size-Code l.miss.now) + 1

abbrev pub decreases-bound_of_cut : goal.decreases-bound_of_cut
decreases-bound_of_cut l = 2 * size-Code l.body.now + 1
