use Rattle.std.proofs.Common.{◌+◌, ◌*◌, max}
use Rattle.term_model.specs.declared.terms.Contr.{size-Contr}
use Rattle.term_model.proofs.copies.+copying.Given as goal

abbrev pub decreases-copied : goal.decreases-copied
decreases-copied l = 3 * size-Contr l.c.now

abbrev pub decreases-copied_part : goal.decreases-copied_part
decreases-copied_part l = 3 * size-Contr l.part.now + 1

abbrev pub decreases-copied_both : goal.decreases-copied_both
decreases-copied_both l = 3 * max (size-Contr l.left.now) (size-Contr l.right.now) + 2

abbrev pub decreases-copied_scale : goal.decreases-copied_scale
decreases-copied_scale l = 3 * size-Contr l.body.now + 2

abbrev pub decreases-copied_after : goal.decreases-copied_after
decreases-copied_after l = 3 * size-Contr l.body.now + 2

abbrev pub decreases-copied_let : goal.decreases-copied_let
decreases-copied_let l = 3 * size-Contr l.body.now + 2

abbrev pub decreases-copied_within : goal.decreases-copied_within
decreases-copied_within l = 3 * max (size-Contr l.hit.now) (size-Contr l.miss.now) + 2
