use Rattle.payoff_terms.proofs.MeaningFacts.{cut_means}
use Rattle.payoff_terms.proofs.laws.cut_means.Goals as goal

pub returns : goal.returns
returns c = cut_means
