use Rattle.payoff_lang.proofs.CodeFronts.{code_faults_end}
use Rattle.payoff_lang.proofs.laws.code_faults_end_fronts.Goals as goal

pub returns : goal.returns
returns c = code_faults_end
