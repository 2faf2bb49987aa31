use Rattle.simplify.proofs.TurnTimes.{turns_keep_types}
use Rattle.simplify.proofs.TurnSmall.{turns_keep_sizes}
use Rattle.simplify.proofs.TurnForms.{turns_keep_forms}
use Rattle.simplify.proofs.laws.turns_are_accepted.Goals as goal

pub returns-clause-times : goal.returns-clause-times
returns-clause-times c = turns_keep_types

pub returns-clause-well_formed : goal.returns-clause-well_formed
returns-clause-well_formed c = turns_keep_forms

pub returns-clause-sizes : goal.returns-clause-sizes
returns-clause-sizes c = turns_keep_sizes
