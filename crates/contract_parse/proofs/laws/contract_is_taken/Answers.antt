use Rattle.contract_parse.proofs.TermsTaken.{contr_taken}
use Rattle.contract_parse.proofs.laws.contract_is_taken.Goals as goal

pub returns : goal.returns
returns c = λ s names e d ps ts rest low x. contr_taken s s.contracts names e d low ps ts rest x
