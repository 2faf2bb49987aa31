use Rattle.interval_check.proofs.ShiftedRules.{rules_see_no_offsets}
use Rattle.interval_check.proofs.laws.rules_see_no_offsets.Goals as goal

pub returns : goal.returns
returns c = rules_see_no_offsets
