use Rattle.term_model.proofs.HorizonFacts.{horizon_within}
use Rattle.term_model.proofs.laws.horizon_is_within_reach.Goals as goal

pub returns : goal.returns
returns c = horizon_within
