use Rattle.std.proofs.Common.{◌≡◌, ◌+◌, ◌*◌, max, Ok, IsTrue}
use Rattle.term_model.specs.declared.terms.Expr.{size-Expr}
use Rattle.term_model.specs.Declarations.{declarations}
use Rattle.expr_eval.specs.Bindings.{bindings}
use Rattle.expr_eval.specs.Evaluations.{days_from}
use Rattle.expr_eval.specs.LevelDays.{StaysLevel}
use Rattle.expr_eval.proofs.evaluation.+evaluation.Given as goal

abbrev pub decreases-evaluate : goal.decreases-evaluate
decreases-evaluate l = 6 * size-Expr l.e.now

abbrev pub decreases-evaluate_one : goal.decreases-evaluate_one
decreases-evaluate_one l = 6 * size-Expr l.of.now + 1

abbrev pub decreases-evaluate_combined : goal.decreases-evaluate_combined
decreases-evaluate_combined l = 6 * max (size-Expr l.left.now) (size-Expr l.right.now) + 1

abbrev pub decreases-evaluate_compared : goal.decreases-evaluate_compared
decreases-evaluate_compared l = 6 * max (size-Expr l.left.now) (size-Expr l.right.now) + 1

abbrev pub decreases-evaluate_quotient : goal.decreases-evaluate_quotient
decreases-evaluate_quotient l = 6 * max (size-Expr l.top.now) (size-Expr l.below.now) + 1

abbrev pub decreases-evaluate_logic : goal.decreases-evaluate_logic
decreases-evaluate_logic l = 6 * max (size-Expr l.left.now) (size-Expr l.right.now) + 1

abbrev pub decreases-evaluate_branches : goal.decreases-evaluate_branches
decreases-evaluate_branches l = 6 * max (size-Expr l.test.now) (max (size-Expr l.yes.now) (size-Expr l.no.now)) + 1

abbrev pub decreases-evaluate_days : goal.decreases-evaluate_days
decreases-evaluate_days l = 6 * max (size-Expr l.body.now) (size-Expr l.first.now) + 4

abbrev pub decreases-evaluate_day : goal.decreases-evaluate_day
decreases-evaluate_day l = 6 * size-Expr l.body.now + 3

abbrev pub decreases-mantissa_at : goal.decreases-mantissa_at
decreases-mantissa_at l = 6 * size-Expr l.e.now + 2

abbrev pub decreases-mantissa_otherwise : goal.decreases-mantissa_otherwise
decreases-mantissa_otherwise l = 6 * size-Expr l.e.now + 1

abbrev pub decreases-mantissa_combined : goal.decreases-mantissa_combined
decreases-mantissa_combined l = 6 * max (size-Expr l.left.now) (size-Expr l.right.now) + 3

abbrev pub decreases-mantissa_chosen : goal.decreases-mantissa_chosen
decreases-mantissa_chosen l = 6 * max (size-Expr l.test.now) (max (size-Expr l.yes.now) (size-Expr l.no.now)) + 3

abbrev pub invariant-evaluate_days-loop-i : goal.invariant-evaluate_days-loop-i
invariant-evaluate_days-loop-i l =
    (days_from (declarations l.decls) l.body l.first (bindings l.names) l.fixings l.from l.i ≡ Ok l.value)
    × (IsTrue l.level → StaysLevel l.decls l.body l.names l.value)
