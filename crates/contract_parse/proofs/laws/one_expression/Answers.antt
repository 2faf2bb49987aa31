use Rattle.contract_parse.proofs.OneTerm.{one_expr}
use Rattle.contract_parse.proofs.laws.one_expression.Goals as goal

pub returns : goal.returns
returns c = λ l s names e e' ts rest rest' x y. one_expr l s names e e' ts rest rest' x y
