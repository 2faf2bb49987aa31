use Rattle.payoff_terms.proofs.WellFormedFacts.{codes_formed}
use Rattle.payoff_terms.proofs.laws.code_is_well_formed.Goals as goal

pub returns : goal.returns
returns c = codes_formed
