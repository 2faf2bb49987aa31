use Rattle.contract_parse.proofs.TermsTaken.{expr_taken}
use Rattle.contract_parse.proofs.laws.expression_is_taken.Goals as goal

pub returns : goal.returns
returns c = λ l s names e d ps ts rest low x. expr_taken l s s.contracts names e d low ps ts rest x
