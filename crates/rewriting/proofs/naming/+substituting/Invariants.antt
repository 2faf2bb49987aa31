use Rattle.std.proofs.Common.{◌+◌, ◌*◌, max}
use Rattle.term_model.specs.declared.terms.Expr.{size-Expr}
use Rattle.rewriting.proofs.naming.+substituting.Given as goal

abbrev pub decreases-substituted : goal.decreases-substituted
decreases-substituted l = 2 * size-Expr l.e.now

abbrev pub decreases-over_substituted : goal.decreases-over_substituted
decreases-over_substituted l = 2 * size-Expr l.of.now + 1

abbrev pub decreases-over_both_substituted : goal.decreases-over_both_substituted
decreases-over_both_substituted l = 2 * max (size-Expr l.left.now) (size-Expr l.right.now) + 1

abbrev pub decreases-choice_substituted : goal.decreases-choice_substituted
decreases-choice_substituted l =
    2 * max (size-Expr l.test.now) (max (size-Expr l.yes.now) (size-Expr l.no.now)) + 1
