use Rattle.schedule_forms.proofs.PlanFrontRuns.{plan_texts_are_whole}
use Rattle.schedule_forms.proofs.laws.plan_texts_are_whole.Goals as goal

pub returns : goal.returns
returns c = plan_texts_are_whole
