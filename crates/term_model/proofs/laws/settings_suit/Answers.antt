use Rattle.term_model.proofs.InstanceFacts.{settings_suit}
use Rattle.term_model.proofs.laws.settings_suit.Goals as goal

pub returns : goal.returns
returns c = settings_suit
