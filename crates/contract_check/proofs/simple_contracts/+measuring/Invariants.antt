use Rattle.std.proofs.Common.{◌+◌, ◌*◌, max}
use Rattle.term_model.specs.declared.terms.Contr.{size-Contr}
use Rattle.contract_check.proofs.simple_contracts.+measuring.Given as goal

abbrev pub decreases-measure_of : goal.decreases-measure_of
decreases-measure_of l = 2 * size-Contr l.c.now

abbrev pub decreases-measure_both : goal.decreases-measure_both
decreases-measure_both l = 2 * max (size-Contr l.left.now) (size-Contr l.right.now) + 1

abbrev pub decreases-measure_scaled : goal.decreases-measure_scaled
decreases-measure_scaled l = 2 * size-Contr l.body.now + 1

abbrev pub decreases-measure_later : goal.decreases-measure_later
decreases-measure_later l = 2 * size-Contr l.body.now + 1
