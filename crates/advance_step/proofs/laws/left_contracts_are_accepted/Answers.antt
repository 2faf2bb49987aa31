use Rattle.advance_step.proofs.LeftForms.{left_formed}
use Rattle.advance_step.proofs.LeftAcceptedFacts.{left_accepted}
use Rattle.advance_step.proofs.laws.left_contracts_are_accepted.Goals as goal

pub returns-clause-well_formed : goal.returns-clause-well_formed
returns-clause-well_formed c = left_formed

pub returns-clause-accepted : goal.returns-clause-accepted
returns-clause-accepted c = left_accepted
