use Rattle.std.proofs.Common.{◌+◌, ◌*◌, max}
use Rattle.term_model.specs.declared.terms.Contr.{size-Contr}
use Rattle.advance_step.proofs.simple_contracts.+passing.Given as goal

abbrev pub decreases-left_of_simple : goal.decreases-left_of_simple
decreases-left_of_simple l = 2 * size-Contr l.c

abbrev pub decreases-left_of_both : goal.decreases-left_of_both
decreases-left_of_both l = 2 * max (size-Contr l.left.value) (size-Contr l.right.value) + 1

abbrev pub decreases-left_of_scaled : goal.decreases-left_of_scaled
decreases-left_of_scaled l = 2 * size-Contr l.body.value + 1

abbrev pub decreases-left_of_later : goal.decreases-left_of_later
decreases-left_of_later l = 2 * size-Contr l.body.value + 1
