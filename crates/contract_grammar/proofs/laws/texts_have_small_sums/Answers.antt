use Rattle.contract_grammar.proofs.TextClosed.{contracts_small}
use Rattle.contract_grammar.proofs.laws.texts_have_small_sums.Goals as goal

pub returns : goal.returns
returns c = contracts_small
