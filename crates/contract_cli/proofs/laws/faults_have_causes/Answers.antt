use Rattle.contract_cli.proofs.LawFacts.{read_faults_have_causes, write_faults_have_causes}
use Rattle.contract_cli.proofs.laws.faults_have_causes.Goals as goal

pub returns : goal.returns
returns c = record { reads = read_faults_have_causes; writes = write_faults_have_causes }
