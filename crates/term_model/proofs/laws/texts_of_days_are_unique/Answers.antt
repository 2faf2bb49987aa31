use Rattle.term_model.proofs.DateTextFacts.{texts_unique}
use Rattle.term_model.proofs.laws.texts_of_days_are_unique.Goals as goal

pub returns : goal.returns
returns c = texts_unique
