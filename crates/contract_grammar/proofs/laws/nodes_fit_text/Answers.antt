use Rattle.contract_grammar.proofs.TextSizes.{nodes_fit}
use Rattle.contract_grammar.proofs.laws.nodes_fit_text.Goals as goal

pub returns : goal.returns
returns c = nodes_fit
