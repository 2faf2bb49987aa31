use Rattle.advance_step.proofs.LeftFlowFacts.{left_scales, left_flows}
use Rattle.advance_step.proofs.CarryFacts.{left_carries}
use Rattle.advance_step.proofs.laws.left_carries.Goals as goal

pub returns-clause-scales : goal.returns-clause-scales
returns-clause-scales c = left_scales

pub returns-clause-flows : goal.returns-clause-flows
returns-clause-flows c = left_flows

pub returns-clause-carries : goal.returns-clause-carries
returns-clause-carries c = left_carries
