use Rattle.payoff_terms.proofs.CodeAlikeFacts.{code_stays}
use Rattle.payoff_terms.proofs.laws.code_values_are_fixed.Goals as goal

pub returns : goal.returns
returns c = code_stays
