use Rattle.std.proofs.Common.{◌+◌, ◌*◌, max}
use Rattle.term_core.specs.declared.shared.SharedContr.{size-SharedContr}
use Rattle.term_core.proofs.sharing.+unsharing.Given as goal

abbrev pub decreases-unshare : goal.decreases-unshare
decreases-unshare l = 3 * size-SharedContr l.s.now

abbrev pub decreases-unshare_part : goal.decreases-unshare_part
decreases-unshare_part l = 3 * size-SharedContr l.part.now + 1

abbrev pub decreases-unshare_both : goal.decreases-unshare_both
decreases-unshare_both l = 3 * max (size-SharedContr l.left.now) (size-SharedContr l.right.now) + 2

abbrev pub decreases-unshare_scale : goal.decreases-unshare_scale
decreases-unshare_scale l = 3 * size-SharedContr l.body.now + 2

abbrev pub decreases-unshare_after : goal.decreases-unshare_after
decreases-unshare_after l = 3 * size-SharedContr l.body.now + 2

abbrev pub decreases-unshare_let : goal.decreases-unshare_let
decreases-unshare_let l = 3 * size-SharedContr l.body.now + 2

abbrev pub decreases-unshare_within : goal.decreases-unshare_within
decreases-unshare_within l = 3 * max (size-SharedContr l.hit.now) (size-SharedContr l.miss.now) + 2
