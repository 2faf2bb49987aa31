use Rattle.term_model.proofs.ReadLawFacts.{reads_stay}
use Rattle.term_model.proofs.laws.reads_stay_up_to_unfixed.Goals as goal

pub returns : goal.returns
returns c = reads_stay
