use Rattle.simplify.proofs.TruthIntervals.{truths_have_nothing}
use Rattle.simplify.proofs.RuleStands.{rule_replaces}
use Rattle.simplify.proofs.ContractRuleStands.{contract_rule_replaces}
use Rattle.simplify.proofs.laws.rules_may_stand.Goals as goal

pub returns-clause-truths : goal.returns-clause-truths
returns-clause-truths c = truths_have_nothing

pub returns-clause-expressions : goal.returns-clause-expressions
returns-clause-expressions c = rule_replaces

pub returns-clause-contracts : goal.returns-clause-contracts
returns-clause-contracts c = contract_rule_replaces
