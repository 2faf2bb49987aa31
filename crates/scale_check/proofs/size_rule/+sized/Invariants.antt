use Rattle.std.proofs.Common.{◌+◌, ◌*◌}
use Rattle.term_model.specs.declared.terms.Contr.{size-Contr}
use Rattle.scale_check.proofs.size_rule.+sized.Given as goal

abbrev pub decreases-try_size : goal.decreases-try_size
decreases-try_size l = 2 * size-Contr l.c.now

abbrev pub decreases-try_behind : goal.decreases-try_behind
decreases-try_behind l = 2 * size-Contr l.c.now + 1
