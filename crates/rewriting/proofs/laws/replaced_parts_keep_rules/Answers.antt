use Rattle.rewriting.proofs.RewritingFacts.{rewritten_replaces}
use Rattle.rewriting.proofs.RewritingContracts.{parts_stand_for_themselves, replacements_compose, rewritten_contract_replaces, rewritten_meet_rules}
use Rattle.rewriting.proofs.laws.replaced_parts_keep_rules.Goals as goal

pub returns-clause-unchanged : goal.returns-clause-unchanged
returns-clause-unchanged c = parts_stand_for_themselves

pub returns-clause-composed : goal.returns-clause-composed
returns-clause-composed c = replacements_compose

pub returns-clause-expressions : goal.returns-clause-expressions
returns-clause-expressions c = rewritten_replaces

pub returns-clause-contracts : goal.returns-clause-contracts
returns-clause-contracts c = rewritten_contract_replaces

pub returns-clause-accepted : goal.returns-clause-accepted
returns-clause-accepted c = rewritten_meet_rules
