use Rattle.std.proofs.Common.{◌+◌, ◌*◌, max}
use Rattle.term_core.specs.declared.shared.SharedContr.{size-SharedContr}
use Rattle.specialise.proofs.contracts.+telling.Given as goal

abbrev pub decreases-specialise_from : goal.decreases-specialise_from
decreases-specialise_from l = 2 * size-SharedContr l.s.now

abbrev pub decreases-specialise_both : goal.decreases-specialise_both
decreases-specialise_both l = 2 * max (size-SharedContr l.left.now.value) (size-SharedContr l.right.now.value) + 1

abbrev pub decreases-specialise_scale : goal.decreases-specialise_scale
decreases-specialise_scale l = 2 * size-SharedContr l.body.now.value + 1

abbrev pub decreases-specialise_after : goal.decreases-specialise_after
decreases-specialise_after l = 2 * size-SharedContr l.body.now.value + 1

abbrev pub decreases-specialise_let : goal.decreases-specialise_let
decreases-specialise_let l = 2 * size-SharedContr l.body.now.value + 1

abbrev pub decreases-specialise_within : goal.decreases-specialise_within
decreases-specialise_within l = 2 * max (size-SharedContr l.hit.now.value) (size-SharedContr l.miss.now.value) + 1
