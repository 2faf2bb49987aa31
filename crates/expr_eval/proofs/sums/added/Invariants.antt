use Rattle.term_model.specs.Terms.{expression}
use Rattle.expr_eval.specs.Sums.{IsSum}
use Rattle.expr_eval.proofs.sums.added.Given as goal

abbrev pub invariant-loop-i : goal.invariant-loop-i
invariant-loop-i l = IsSum (expression l.fn.part) l.fn.start l.fn.fixings l.fn.from l.i l.sum
