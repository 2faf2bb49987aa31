use Rattle.std.proofs.Common.{◌+◌, ◌*◌, max}
use Rattle.payoff_terms.specs.declared.code.Code.{size-Code}
use Rattle.payoff_check.proofs.size_rule.+sizing.Given as goal

abbrev pub decreases-sizes_of : goal.decreases-sizes_of
decreases-sizes_of l = 2 * size-Code l.k.now

abbrev pub decreases-size_of_sum : goal.decreases-size_of_sum
decreases-size_of_sum l = 2 * max (size-Code l.left.now) (size-Code l.right.now) + 1

abbrev pub decreases-size_behind : goal.decreases-size_behind
decreases-size_behind l = 2 * size-Code l.body.now + 1

abbrev pub decreases-size_of_loop : goal.decreases-size_of_loop
decreases-size_of_loop l = 2 * max (size-Code l.hit.now) (size-Code l.miss.now) + 1

abbrev pub decreases-size_of_cut : goal.decreases-size_of_cut
decreases-size_of_cut l = 2 * size-Code l.body.now + 1
