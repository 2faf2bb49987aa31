use Rattle.contract_grammar.proofs.TextSizes.{contracts_fit}
use Rattle.contract_grammar.proofs.laws.contracts_fit_text.Goals as goal

pub returns : goal.returns
returns c = contracts_fit
