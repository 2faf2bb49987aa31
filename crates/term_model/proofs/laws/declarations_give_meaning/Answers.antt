use Rattle.term_model.proofs.FormedFacts.{one_form}
use Rattle.term_model.proofs.MeaningFacts.{one_meaning}
use Rattle.term_model.proofs.VerdictFacts.{one_verdict}
use Rattle.term_model.proofs.laws.declarations_give_meaning.Goals as goal

pub returns : goal.returns
returns c = record { meaning = one_meaning; verdict = one_verdict; forms = one_form }
