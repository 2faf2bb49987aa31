use Rattle.term_model.proofs.MultipleFacts.{amounts_multiple}
use Rattle.term_model.proofs.laws.amounts_are_multiples.Goals as goal

pub returns : goal.returns
returns c = amounts_multiple
