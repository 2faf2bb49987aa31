use Rattle.term_model.proofs.FlowFacts.{amounts_begin}
use Rattle.term_model.proofs.laws.amounts_begin_at_zero.Goals as goal

pub returns : goal.returns
returns c = amounts_begin
