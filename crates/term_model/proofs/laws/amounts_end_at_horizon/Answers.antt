use Rattle.term_model.proofs.FlowFacts.{amounts_end}
use Rattle.term_model.proofs.laws.amounts_end_at_horizon.Goals as goal

pub returns : goal.returns
returns c = amounts_end
