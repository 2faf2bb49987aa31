use Rattle.std.proofs.Common.{◌≡◌, ◌+◌, ◌*◌, max, Ok}
use Rattle.payoff_terms.specs.declared.code.Vx.{size-Vx}
use Rattle.term_model.specs.Declarations.{declarations}
use Rattle.payoff_terms.specs.Code.{value_expression}
use Rattle.payoff_terms.specs.Dating.{at_setting}
use Rattle.expr_eval.specs.Bindings.{bindings}
use Rattle.expr_eval.specs.Runs.{days_run}
use Rattle.payoff_eval.proofs.evaluation.+evaluation.Given as goal

abbrev pub decreases-evaluate : goal.decreases-evaluate
decreases-evaluate l = 3 * size-Vx l.e.now

abbrev pub decreases-evaluate_both : goal.decreases-evaluate_both
decreases-evaluate_both l = 3 * max (size-Vx l.left.now) (size-Vx l.right.now) + 1

abbrev pub decreases-evaluate_logic : goal.decreases-evaluate_logic
decreases-evaluate_logic l = 3 * max (size-Vx l.left.now) (size-Vx l.right.now) + 1

abbrev pub decreases-evaluate_branches : goal.decreases-evaluate_branches
decreases-evaluate_branches l = 3 * max (size-Vx l.test.now) (max (size-Vx l.yes.now) (size-Vx l.no.now)) + 1

abbrev pub decreases-evaluate_days : goal.decreases-evaluate_days
decreases-evaluate_days l = 3 * size-Vx l.body.now + 2

abbrev pub decreases-evaluate_day : goal.decreases-evaluate_day
decreases-evaluate_day l = 3 * size-Vx l.body.now + 1

abbrev pub invariant-evaluate_days-loop-i : goal.invariant-evaluate_days-loop-i
invariant-evaluate_days-loop-i l =
    days_run (declarations l.asking.decls.now) (at_setting l.asking.setting.now (value_expression l.body)) (bindings l.names) l.asking.fixings.now l.from l.i l.fn.start ≡ Ok l.value
