use Rattle.contract_check.proofs.CheckFacts.{facts_unique, answers_unique}
use Rattle.contract_check.proofs.laws.answers_are_unique.Goals as goal

pub returns : goal.returns
returns c = record { facts = facts_unique; answers = answers_unique }
