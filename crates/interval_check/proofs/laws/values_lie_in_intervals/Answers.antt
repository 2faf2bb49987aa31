use Rattle.interval_check.proofs.GuaranteeFacts.{values_lie_in_intervals}
use Rattle.interval_check.proofs.laws.values_lie_in_intervals.Goals as goal

pub returns : goal.returns
returns c = values_lie_in_intervals
