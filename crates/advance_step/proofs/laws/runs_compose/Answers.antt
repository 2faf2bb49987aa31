use Rattle.advance_step.proofs.ResidualFacts.{runs_compose}
use Rattle.advance_step.proofs.laws.runs_compose.Goals as goal

pub returns : goal.returns
returns c = runs_compose
