use Rattle.contract_grammar.proofs.TextSizes.{names_fit}
use Rattle.contract_grammar.proofs.laws.names_fit_text.Goals as goal

pub returns : goal.returns
returns c = names_fit
