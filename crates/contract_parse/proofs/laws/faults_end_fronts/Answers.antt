use Rattle.contract_parse.proofs.FrontRuns.{faults_end_fronts}
use Rattle.contract_parse.proofs.laws.faults_end_fronts.Goals as goal

pub returns : goal.returns
returns c = faults_end_fronts
