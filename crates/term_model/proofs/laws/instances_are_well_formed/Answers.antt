use Rattle.term_model.proofs.InstanceFacts.{instances_well_formed}
use Rattle.term_model.proofs.laws.instances_are_well_formed.Goals as goal

pub returns : goal.returns
returns c = instances_well_formed
