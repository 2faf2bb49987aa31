use Rattle.term_model.proofs.ReadLawFacts.{amounts_depend}
use Rattle.term_model.proofs.laws.amounts_depend_on_reads.Goals as goal

pub returns : goal.returns
returns c = amounts_depend
