use Rattle.expr_eval.proofs.PartFacts.{accepted_may_evaluate, parts_of_parts_may_evaluate}
use Rattle.expr_eval.proofs.laws.parts_may_be_evaluated.Goals as goal

pub returns : goal.returns
returns c = record { whole = accepted_may_evaluate; parts = parts_of_parts_may_evaluate }
