use Rattle.term_model.proofs.InstanceFacts.{defaults_suit}
use Rattle.term_model.proofs.laws.defaults_suit.Goals as goal

pub returns : goal.returns
returns c = defaults_suit
