use Rattle.simplify.proofs.TurnForm.{turn_form}
use Rattle.simplify.proofs.TurnReplaces.{turn_replaces, contract_turn_replaces}
use Rattle.simplify.proofs.TurnAccepted.{turn_accepted}
use Rattle.simplify.proofs.laws.turned_contracts_are_accepted.Goals as goal

pub returns-clause-forms : goal.returns-clause-forms
returns-clause-forms c = turn_form

pub returns-clause-expressions : goal.returns-clause-expressions
returns-clause-expressions c = turn_replaces

pub returns-clause-contracts : goal.returns-clause-contracts
returns-clause-contracts c = contract_turn_replaces

pub returns-clause-accepted : goal.returns-clause-accepted
returns-clause-accepted c = turn_accepted
