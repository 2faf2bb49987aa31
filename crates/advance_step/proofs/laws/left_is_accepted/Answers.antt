use Rattle.advance_step.proofs.LeftSizes.{gone, near, past_left, nodes_left}
use Rattle.advance_step.proofs.LeftTimes.{left_typed}
use Rattle.advance_step.proofs.LeftRules.{left_replaces}
use Rattle.advance_step.proofs.laws.left_is_accepted.Goals as goal

pub returns-clause-gone : goal.returns-clause-gone
returns-clause-gone c = gone

pub returns-clause-reach : goal.returns-clause-reach
returns-clause-reach c = near

pub returns-clause-past : goal.returns-clause-past
returns-clause-past c = past_left

pub returns-clause-nodes : goal.returns-clause-nodes
returns-clause-nodes c = nodes_left

pub returns-clause-times : goal.returns-clause-times
returns-clause-times c = left_typed

pub returns-clause-rules : goal.returns-clause-rules
returns-clause-rules c = left_replaces
