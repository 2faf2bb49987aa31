use Rattle.std.proofs.Common.{◌+◌, ◌*◌, max}
use Rattle.term_model.specs.declared.terms.Expr.{size-Expr}
use Rattle.time_types.proofs.time_rule.+knowing.Given as goal

abbrev pub decreases-known : goal.decreases-known
decreases-known l = 2 * size-Expr l.e.now

abbrev pub decreases-known_both : goal.decreases-known_both
decreases-known_both l = 2 * max (size-Expr l.left.now) (size-Expr l.right.now) + 1
