use Rattle.term_model.proofs.ReadGrowthFacts.{reads_grow}
use Rattle.term_model.proofs.laws.reads_grow.Goals as goal

pub returns : goal.returns
returns c = reads_grow
