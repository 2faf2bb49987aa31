use Rattle.term_model.proofs.DateTextFacts.{days_civil}
use Rattle.term_model.proofs.laws.days_of_texts_are_civil.Goals as goal

pub returns : goal.returns
returns c = days_civil
