use Rattle.std.proofs.Common.{◌+◌, ◌*◌, max}
use Rattle.term_core.specs.declared.shared.SharedContr.{size-SharedContr}
use Rattle.advance_step.proofs.walk.+carrying.Given as goal

abbrev pub decreases-carry_in : goal.decreases-carry_in
decreases-carry_in l = 2 * size-SharedContr l.s.now

abbrev pub decreases-carry_both : goal.decreases-carry_both
decreases-carry_both l =
    2 * max (size-SharedContr l.left.now.value) (size-SharedContr l.right.now.value) + 1

abbrev pub decreases-carry_scaled : goal.decreases-carry_scaled
decreases-carry_scaled l = 2 * size-SharedContr l.body.now.value + 1

abbrev pub decreases-carry_after : goal.decreases-carry_after
decreases-carry_after l = 2 * size-SharedContr l.body.now.value + 1

abbrev pub decreases-carry_bound : goal.decreases-carry_bound
decreases-carry_bound l = 2 * size-SharedContr l.body.now.value + 1

abbrev pub decreases-carry_within : goal.decreases-carry_within
decreases-carry_within l =
    2 * max (size-SharedContr l.hit.now.value) (size-SharedContr l.miss.now.value) + 1
