use Rattle.specialise.proofs.SpecialContracts.{contract_scale, contract_flow, contract_reads, contract_smaller, special_carries}
use Rattle.specialise.proofs.SpecialRedexes.{special_leaves_none}
use Rattle.specialise.proofs.laws.specialised_contract_means.Goals as goal

pub returns-clause-scales : goal.returns-clause-scales
returns-clause-scales c = contract_scale

pub returns-clause-flows : goal.returns-clause-flows
returns-clause-flows c = contract_flow

pub returns-clause-reads : goal.returns-clause-reads
returns-clause-reads c = contract_reads

pub returns-clause-size : goal.returns-clause-size
returns-clause-size c = contract_smaller

pub returns-clause-carries : goal.returns-clause-carries
returns-clause-carries c = special_carries

pub returns-clause-none : goal.returns-clause-none
returns-clause-none c = special_leaves_none
