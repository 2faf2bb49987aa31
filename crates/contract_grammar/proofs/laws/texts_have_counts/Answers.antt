use Rattle.contract_grammar.proofs.TextClosed.{contracts_count}
use Rattle.contract_grammar.proofs.laws.texts_have_counts.Goals as goal

pub returns : goal.returns
returns c = contracts_count
