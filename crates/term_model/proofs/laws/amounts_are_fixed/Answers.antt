use Rattle.term_model.proofs.ReadLawFacts.{amounts_fixed}
use Rattle.term_model.proofs.laws.amounts_are_fixed.Goals as goal

pub returns : goal.returns
returns c = amounts_fixed
