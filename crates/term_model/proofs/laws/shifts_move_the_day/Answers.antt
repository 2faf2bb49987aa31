use Rattle.term_model.proofs.ShiftFacts.{value-shifted}
use Rattle.term_model.proofs.laws.shifts_move_the_day.Goals as goal

pub returns : goal.returns
returns c = value-shifted
