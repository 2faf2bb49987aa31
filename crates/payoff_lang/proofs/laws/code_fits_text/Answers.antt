use Rattle.payoff_lang.proofs.CodeWeights.{code_fits}
use Rattle.payoff_lang.proofs.laws.code_fits_text.Goals as goal

pub returns : goal.returns
returns c = code_fits
