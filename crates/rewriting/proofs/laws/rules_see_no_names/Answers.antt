use Rattle.rewriting.proofs.NamedRules.{rules_without, contract_rules_without}
use Rattle.rewriting.proofs.laws.rules_see_no_names.Goals as goal

pub returns-clause-expressions : goal.returns-clause-expressions
returns-clause-expressions c = rules_without

pub returns-clause-contracts : goal.returns-clause-contracts
returns-clause-contracts c = contract_rules_without
