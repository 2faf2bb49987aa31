use Rattle.payoff_terms.proofs.MeaningFacts.{compiled_means}
use Rattle.payoff_terms.proofs.laws.code_means.Goals as goal

pub returns : goal.returns
returns c = compiled_means
