use Rattle.std.proofs.Common.{◌+◌, ◌*◌}
use Rattle.term_model.specs.declared.terms.Expr.{size-Expr}
use Rattle.advance_step.proofs.settled.+settling.Given as goal

abbrev pub decreases-is_settled : goal.decreases-is_settled
decreases-is_settled l = 2 * size-Expr l.e.now

abbrev pub decreases-is_sum_settled : goal.decreases-is_sum_settled
decreases-is_sum_settled l = 2 * size-Expr l.first.now + 1
