use Rattle.simplify.proofs.TurnFacts.{turns_end}
use Rattle.simplify.proofs.TurnMeaning.{turn_means}
use Rattle.simplify.proofs.PlainFacts.{plain_leaves_none}
use Rattle.simplify.proofs.ContractTurns.{contract_turns_end}
use Rattle.simplify.proofs.laws.turns_end.Goals as goal

pub returns-clause-end : goal.returns-clause-end
returns-clause-end c = turns_end

pub returns-clause-values : goal.returns-clause-values
returns-clause-values c = turn_means

pub returns-clause-contracts : goal.returns-clause-contracts
returns-clause-contracts c = contract_turns_end

pub returns-clause-none : goal.returns-clause-none
returns-clause-none c = plain_leaves_none
