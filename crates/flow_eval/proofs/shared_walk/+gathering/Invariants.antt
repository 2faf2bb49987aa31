use Rattle.std.proofs.Common.{◌+◌, ◌*◌, max}
use Rattle.term_core.specs.declared.shared.SharedContr.{size-SharedContr}
use Rattle.flow_eval.proofs.shared_walk.+gathering.Given as goal

abbrev pub decreases-gather_shared : goal.decreases-gather_shared
decreases-gather_shared l = 2 * size-SharedContr l.s.now

abbrev pub decreases-gather_both : goal.decreases-gather_both
decreases-gather_both l = 2 * max (size-SharedContr l.left.now) (size-SharedContr l.right.now) + 1

abbrev pub decreases-gather_scaled : goal.decreases-gather_scaled
decreases-gather_scaled l = 2 * size-SharedContr l.body.now + 1

abbrev pub decreases-gather_bound : goal.decreases-gather_bound
decreases-gather_bound l = 2 * size-SharedContr l.body.now + 1

abbrev pub decreases-gather_within : goal.decreases-gather_within
decreases-gather_within l = 2 * max (size-SharedContr l.hit.now) (size-SharedContr l.miss.now) + 1
