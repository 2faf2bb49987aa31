use Rattle.term_model.proofs.ReadLawFacts.{values_depend}
use Rattle.term_model.proofs.laws.values_depend_on_reads.Goals as goal

pub returns : goal.returns
returns c = values_depend
