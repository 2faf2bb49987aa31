use Rattle.term_model.proofs.ReadShiftFacts.{reads-shifted}
use Rattle.term_model.proofs.laws.reads_move_the_day.Goals as goal

pub returns : goal.returns
returns c = reads-shifted
