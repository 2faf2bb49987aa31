use Rattle.term_model.proofs.RefusalFacts.{refusals_unique}
use Rattle.term_model.proofs.laws.refusals_are_unique.Goals as goal

pub returns : goal.returns
returns c = refusals_unique
