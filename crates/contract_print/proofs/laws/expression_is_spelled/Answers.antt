use Rattle.std.proofs.Common.{[]}
use Rattle.contract_print.proofs.ExprSpelled.{expr_spelled}
use Rattle.contract_print.proofs.laws.expression_is_spelled.Goals as goal

pub returns : goal.returns
returns c = λ d n e names wf h low. expr_spelled d [] n e names wf h low
