use Rattle.std.proofs.Common.{◌+◌, ◌*◌, max}
use Rattle.term_model.specs.declared.terms.Contr.{size-Contr}
use Rattle.interval_check.proofs.bound_rule.+totalling.Given as goal

abbrev pub decreases-total_of : goal.decreases-total_of
decreases-total_of l = 2 * size-Contr l.c.now

abbrev pub decreases-total_of_scale : goal.decreases-total_of_scale
decreases-total_of_scale l = 2 * size-Contr l.body.now + 1

abbrev pub decreases-total_of_let : goal.decreases-total_of_let
decreases-total_of_let l = 2 * size-Contr l.body.now + 1

abbrev pub decreases-total_of_later : goal.decreases-total_of_later
decreases-total_of_later l = 2 * size-Contr l.body.now + 1

abbrev pub decreases-total_of_parts : goal.decreases-total_of_parts
decreases-total_of_parts l = 2 * max (size-Contr l.left.now) (size-Contr l.right.now) + 1

abbrev pub decreases-total_of_branches : goal.decreases-total_of_branches
decreases-total_of_branches l = 2 * max (size-Contr l.hit.now) (size-Contr l.miss.now) + 1
