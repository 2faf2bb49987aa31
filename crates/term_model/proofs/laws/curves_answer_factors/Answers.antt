use Rattle.term_model.proofs.FactorFacts.{answers_factor}
use Rattle.term_model.proofs.laws.curves_answer_factors.Goals as goal

pub returns : goal.returns
returns c = answers_factor
