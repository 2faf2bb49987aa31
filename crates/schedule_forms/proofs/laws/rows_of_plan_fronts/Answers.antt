use Rattle.schedule_forms.proofs.PlanFrontRows.{plan_front_rows}
use Rattle.schedule_forms.proofs.laws.rows_of_plan_fronts.Goals as goal

pub returns : goal.returns
returns c = plan_front_rows
