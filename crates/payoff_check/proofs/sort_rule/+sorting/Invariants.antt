use Rattle.std.proofs.Common.{◌+◌, ◌*◌, max}
use Rattle.payoff_terms.specs.declared.code.Code.{size-Code}
use Rattle.payoff_check.proofs.sort_rule.+sorting.Given as goal

abbrev pub decreases-sorts_of : goal.decreases-sorts_of
decreases-sorts_of l = 2 * size-Code l.k.now

abbrev pub decreases-sorts_of_sum : goal.decreases-sorts_of_sum
decreases-sorts_of_sum l = 2 * max (size-Code l.left.now) (size-Code l.right.now) + 1

abbrev pub decreases-sorts_of_product : goal.decreases-sorts_of_product
decreases-sorts_of_product l = 2 * size-Code l.body.now + 1

abbrev pub decreases-sorts_of_let : goal.decreases-sorts_of_let
decreases-sorts_of_let l = 2 * size-Code l.body.now + 1

abbrev pub decreases-sorts_of_loop : goal.decreases-sorts_of_loop
decreases-sorts_of_loop l = 2 * max (size-Code l.hit.now) (size-Code l.miss.now) + 1

abbrev pub decreases-sorts_of_cut : goal.decreases-sorts_of_cut
decreases-sorts_of_cut l = 2 * size-Code l.body.now + 1
