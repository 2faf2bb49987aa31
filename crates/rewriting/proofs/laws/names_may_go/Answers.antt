use Rattle.rewriting.proofs.NameKinds.{kind_without}
use Rattle.rewriting.proofs.NameValues.{value_without}
use Rattle.rewriting.proofs.NameFlows.{flow_without}
use Rattle.rewriting.proofs.NameReads.{reads_without, contract_reads_without}
use Rattle.rewriting.proofs.laws.names_may_go.Goals as goal

pub returns-clause-kinds : goal.returns-clause-kinds
returns-clause-kinds c = kind_without

pub returns-clause-values : goal.returns-clause-values
returns-clause-values c = value_without

pub returns-clause-flows : goal.returns-clause-flows
returns-clause-flows c = flow_without

pub returns-clause-reads : goal.returns-clause-reads
returns-clause-reads c = reads_without

pub returns-clause-contract_reads : goal.returns-clause-contract_reads
returns-clause-contract_reads c = contract_reads_without
