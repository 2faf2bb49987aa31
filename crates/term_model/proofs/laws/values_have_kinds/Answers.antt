use Rattle.term_model.proofs.KindFacts.{values_have_kinds}
use Rattle.term_model.proofs.laws.values_have_kinds.Goals as goal

pub returns : goal.returns
returns c = values_have_kinds
