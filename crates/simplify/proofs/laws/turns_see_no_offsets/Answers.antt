use Rattle.simplify.proofs.TurnShiftFacts.{turns-shifted}
use Rattle.simplify.proofs.laws.turns_see_no_offsets.Goals as goal

pub returns : goal.returns
returns c = turns-shifted
