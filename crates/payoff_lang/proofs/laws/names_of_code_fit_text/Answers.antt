use Rattle.payoff_lang.proofs.CodeWeights.{names_of_code_fit}
use Rattle.payoff_lang.proofs.laws.names_of_code_fit_text.Goals as goal

pub returns : goal.returns
returns c = names_of_code_fit
