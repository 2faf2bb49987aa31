use Rattle.std.proofs.Common.{◌+◌, ◌*◌, max}
use Rattle.payoff_terms.specs.declared.code.Code.{size-Code}
use Rattle.payoff_compile.proofs.cutting.+cutting.Given as goal

abbrev pub decreases-with_cuts : goal.decreases-with_cuts
decreases-with_cuts l = 3 * size-Code l.code

abbrev pub decreases-boxed_with_cuts : goal.decreases-boxed_with_cuts
decreases-boxed_with_cuts l = 3 * size-Code l.code.value + 1

abbrev pub decreases-cut_both : goal.decreases-cut_both
decreases-cut_both l = 3 * max (size-Code l.left.value) (size-Code l.right.value) + 2

abbrev pub decreases-cut_scaled : goal.decreases-cut_scaled
decreases-cut_scaled l = 3 * size-Code l.body.value + 2

abbrev pub decreases-cut_bound : goal.decreases-cut_bound
decreases-cut_bound l = 3 * size-Code l.body.value + 2

abbrev pub decreases-cut_branches : goal.decreases-cut_branches
decreases-cut_branches l = 3 * max (size-Code l.hit.value) (size-Code l.miss.value) + 2

abbrev pub decreases-cut_body : goal.decreases-cut_body
decreases-cut_body l = 3 * size-Code l.body.value + 2
