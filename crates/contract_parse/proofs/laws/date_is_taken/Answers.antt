use Rattle.contract_parse.proofs.TermsTaken.{date_taken}
use Rattle.contract_parse.proofs.laws.date_is_taken.Goals as goal

pub returns : goal.returns
returns c = λ s days written ps ts rest lacks x. date_taken s days written ps ts rest lacks x
