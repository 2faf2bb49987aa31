use Rattle.term_model.proofs.InstanceFacts.{instances_have_numbers}
use Rattle.term_model.proofs.laws.instances_have_numbers.Goals as goal

pub returns : goal.returns
returns c = instances_have_numbers
