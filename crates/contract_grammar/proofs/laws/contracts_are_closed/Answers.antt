use Rattle.contract_grammar.proofs.TextClosed.{contracts_closed}
use Rattle.contract_grammar.proofs.laws.contracts_are_closed.Goals as goal

pub returns : goal.returns
returns c = contracts_closed
