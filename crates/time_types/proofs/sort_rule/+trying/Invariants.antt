use Rattle.std.proofs.Common.{◌+◌, ◌*◌, max}
use Rattle.term_model.specs.declared.terms.Contr.{size-Contr}
use Rattle.time_types.proofs.sort_rule.+trying.Given as goal

abbrev pub decreases-try_sorts : goal.decreases-try_sorts
decreases-try_sorts l = 2 * size-Contr l.c.now

abbrev pub decreases-try_both : goal.decreases-try_both
decreases-try_both l = 2 * max (size-Contr l.left.now) (size-Contr l.right.now) + 1

abbrev pub decreases-try_scale : goal.decreases-try_scale
decreases-try_scale l = 2 * size-Contr l.body.now + 1

abbrev pub decreases-try_let : goal.decreases-try_let
decreases-try_let l = 2 * size-Contr l.body.now + 1

abbrev pub decreases-try_within : goal.decreases-try_within
decreases-try_within l = 2 * max (size-Contr l.hit.now) (size-Contr l.miss.now) + 1
