use Rattle.std.proofs.Common.{◌+◌, ◌*◌, max}
use Rattle.term_model.specs.declared.terms.Contr.{size-Contr}
use Rattle.term_core.proofs.sharing.+sharing.Given as goal

abbrev pub decreases-share : goal.decreases-share
decreases-share l = 2 * size-Contr l.c.now

abbrev pub decreases-share_both : goal.decreases-share_both
decreases-share_both l = 2 * max (size-Contr l.left.now) (size-Contr l.right.now) + 1

abbrev pub decreases-share_scale : goal.decreases-share_scale
decreases-share_scale l = 2 * size-Contr l.body.now + 1

abbrev pub decreases-share_after : goal.decreases-share_after
decreases-share_after l = 2 * size-Contr l.body.now + 1

abbrev pub decreases-share_let : goal.decreases-share_let
decreases-share_let l = 2 * size-Contr l.body.now + 1

abbrev pub decreases-share_within : goal.decreases-share_within
decreases-share_within l = 2 * max (size-Contr l.hit.now) (size-Contr l.miss.now) + 1
