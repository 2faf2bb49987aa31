use Rattle.std.proofs.Common.{◌+◌, ◌*◌}
use Rattle.term_model.specs.declared.terms.Contr.{size-Contr}
use Rattle.advance_step.proofs.settled.+staying.Given as goal

abbrev pub decreases-stays : goal.decreases-stays
decreases-stays l = 2 * size-Contr l.c.now

abbrev pub decreases-later_stays : goal.decreases-later_stays
decreases-later_stays l = 2 * size-Contr l.c.now + 1

abbrev pub decreases-waits : goal.decreases-waits
decreases-waits l = 2 * size-Contr l.miss.now + 1
