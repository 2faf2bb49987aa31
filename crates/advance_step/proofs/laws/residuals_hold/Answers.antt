use Rattle.advance_step.proofs.ReducingFacts.{reducing_once, reducing_ends, residuals_hold}
use Rattle.advance_step.proofs.laws.residuals_hold.Goals as goal

pub returns-clause-once : goal.returns-clause-once
returns-clause-once c = reducing_once

pub returns-clause-ends : goal.returns-clause-ends
returns-clause-ends c = reducing_ends

pub returns-clause-residuals : goal.returns-clause-residuals
returns-clause-residuals c = residuals_hold
