use Rattle.specialise.proofs.SpecialTimes.{contract_typed}
use Rattle.specialise.proofs.SpecialForms.{contract_formed}
use Rattle.specialise.proofs.SpecialRules.{special_replaces}
use Rattle.specialise.proofs.AcceptedFacts.{special_accepted}
use Rattle.specialise.proofs.laws.specialised_are_accepted.Goals as goal

pub returns-clause-times : goal.returns-clause-times
returns-clause-times c = contract_typed

pub returns-clause-well_formed : goal.returns-clause-well_formed
returns-clause-well_formed c = contract_formed

pub returns-clause-rules : goal.returns-clause-rules
returns-clause-rules c = special_replaces

pub returns-clause-accepted : goal.returns-clause-accepted
returns-clause-accepted c = special_accepted
