use Rattle.term_model.proofs.FlowFacts.{amounts_opposite}
use Rattle.term_model.proofs.laws.amounts_are_opposite.Goals as goal

pub returns : goal.returns
returns c = amounts_opposite
