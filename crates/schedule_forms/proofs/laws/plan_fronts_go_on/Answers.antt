use Rattle.schedule_forms.proofs.PlanFrontGoesOn.{plan_fronts_go_on}
use Rattle.schedule_forms.proofs.laws.plan_fronts_go_on.Goals as goal

pub returns : goal.returns
returns c = plan_fronts_go_on
