use Rattle.contract_grammar.proofs.TextSizes.{payments_fit}
use Rattle.contract_grammar.proofs.laws.payments_fit_text.Goals as goal

pub returns : goal.returns
returns c = payments_fit
