use Rattle.term_model.proofs.RefusalFacts.{accepted_not_refused}
use Rattle.term_model.proofs.laws.accepted_are_not_refused.Goals as goal

pub returns : goal.returns
returns c = accepted_not_refused
