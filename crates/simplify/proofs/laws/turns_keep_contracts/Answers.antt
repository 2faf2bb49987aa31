use Rattle.simplify.proofs.TurnFlows.{turns_keep_flows, turns_keep_amounts}
use Rattle.simplify.proofs.TurnReads.{turn_reads}
use Rattle.simplify.proofs.ContractTurnReads.{turn_transfers, contract_turn_reads, turns_carry}
use Rattle.simplify.proofs.laws.turns_keep_contracts.Goals as goal

pub returns-clause-flows : goal.returns-clause-flows
returns-clause-flows c = turns_keep_flows

pub returns-clause-amounts : goal.returns-clause-amounts
returns-clause-amounts c = turns_keep_amounts

pub returns-clause-reads : goal.returns-clause-reads
returns-clause-reads c = turn_reads

pub returns-clause-transfers : goal.returns-clause-transfers
returns-clause-transfers c = turn_transfers

pub returns-clause-contract_reads : goal.returns-clause-contract_reads
returns-clause-contract_reads c = contract_turn_reads

pub returns-clause-carry : goal.returns-clause-carry
returns-clause-carry c = turns_carry
