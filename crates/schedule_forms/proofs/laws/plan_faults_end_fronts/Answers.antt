use Rattle.schedule_forms.proofs.PlanFrontRuns.{plan_faults_end_fronts}
use Rattle.schedule_forms.proofs.laws.plan_faults_end_fronts.Goals as goal

pub returns : goal.returns
returns c = plan_faults_end_fronts
