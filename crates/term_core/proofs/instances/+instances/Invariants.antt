use Rattle.std.proofs.Common.{◌+◌, ◌*◌, max}
use Rattle.term_model.specs.declared.terms.Contr.{size-Contr}
use Rattle.term_core.proofs.instances.+instances.Given as goal

abbrev pub decreases-instantiate : goal.decreases-instantiate
decreases-instantiate l = 3 * size-Contr l.c.now

abbrev pub decreases-part_at : goal.decreases-part_at
decreases-part_at l = 3 * size-Contr l.part.now + 1

abbrev pub decreases-both_at : goal.decreases-both_at
decreases-both_at l = 3 * max (size-Contr l.left.now) (size-Contr l.right.now) + 2

abbrev pub decreases-scale_at : goal.decreases-scale_at
decreases-scale_at l = 3 * size-Contr l.body.now + 2

abbrev pub decreases-after_at : goal.decreases-after_at
decreases-after_at l = 3 * size-Contr l.body.now + 2

abbrev pub decreases-let_at : goal.decreases-let_at
decreases-let_at l = 3 * size-Contr l.body.now + 2

abbrev pub decreases-within_at : goal.decreases-within_at
decreases-within_at l = 3 * max (size-Contr l.hit.now) (size-Contr l.miss.now) + 2
