use Rattle.rewriting.proofs.StandingFacts.{values_replace, branches_replace, contract_parts_replace}
use Rattle.rewriting.proofs.laws.parts_may_stand_for_wholes.Goals as goal

pub returns-clause-values : goal.returns-clause-values
returns-clause-values c = values_replace

pub returns-clause-branches : goal.returns-clause-branches
returns-clause-branches c = branches_replace

pub returns-clause-contracts : goal.returns-clause-contracts
returns-clause-contracts c = contract_parts_replace
