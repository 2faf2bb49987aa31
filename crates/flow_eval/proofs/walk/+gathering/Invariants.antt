use Rattle.std.proofs.Common.{◌+◌, ◌*◌, max}
use Rattle.term_model.specs.declared.terms.Contr.{size-Contr}
use Rattle.flow_eval.proofs.walk.+gathering.Given as goal

abbrev pub decreases-gather : goal.decreases-gather
decreases-gather l = 2 * size-Contr l.c.now

abbrev pub decreases-gather_both : goal.decreases-gather_both
decreases-gather_both l = 2 * max (size-Contr l.left.now) (size-Contr l.right.now) + 1

abbrev pub decreases-gather_scaled : goal.decreases-gather_scaled
decreases-gather_scaled l = 2 * size-Contr l.body.now + 1

abbrev pub decreases-gather_bound : goal.decreases-gather_bound
decreases-gather_bound l = 2 * size-Contr l.body.now + 1

abbrev pub decreases-gather_within : goal.decreases-gather_within
decreases-gather_within l = 2 * max (size-Contr l.hit.now) (size-Contr l.miss.now) + 1
