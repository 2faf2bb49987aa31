use Rattle.std.proofs.Common.{◌≡◌, ◌+ℤ◌, pos, Ok, None}
use Rattle.term_model.specs.Declarations.{declarations}
use Rattle.payoff_terms.specs.Code.{value_expression}
use Rattle.payoff_eval.specs.CodeRuns.{answer_of}
use Rattle.expr_eval.specs.Trials.{first_tried}
use Rattle.payoff_eval.proofs.walk.first_day.Given as goal

abbrev pub invariant-loop-i : goal.invariant-loop-i
invariant-loop-i l =
    first_tried l.i (λ i. answer_of (declarations l.fn.asking.decls.now) (value_expression l.fn.test) l.fn.scratch.entries l.fn.asking.fixings.now l.fn.asking.setting.now (l.fn.base +ℤ pos i)) ≡ Ok None
