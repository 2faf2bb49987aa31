use Rattle.std.proofs.Common.{◌+◌, ◌*◌, max}
use Rattle.payoff_terms.specs.declared.code.Code.{size-Code}
use Rattle.payoff_check.proofs.scale_rule.+scaling.Given as goal

abbrev pub decreases-scales_of : goal.decreases-scales_of
decreases-scales_of l = 2 * size-Code l.k.now

abbrev pub decreases-scale_of_sum : goal.decreases-scale_of_sum
decreases-scale_of_sum l = 2 * max (size-Code l.left.now) (size-Code l.right.now) + 1

abbrev pub decreases-scale_of_product : goal.decreases-scale_of_product
decreases-scale_of_product l = 2 * size-Code l.body.now + 1

abbrev pub decreases-scale_of_let : goal.decreases-scale_of_let
decreases-scale_of_let l = 2 * size-Code l.body.now + 1

abbrev pub decreases-scale_of_loop : goal.decreases-scale_of_loop
decreases-scale_of_loop l = 2 * max (size-Code l.hit.now) (size-Code l.miss.now) + 1

abbrev pub decreases-scale_of_cut : goal.decreases-scale_of_cut
decreases-scale_of_cut l = 2 * size-Code l.body.now + 1
