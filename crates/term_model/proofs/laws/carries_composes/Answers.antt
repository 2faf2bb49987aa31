use Rattle.term_model.proofs.ResidualFacts.{carries_itself, carries_composes}
use Rattle.term_model.proofs.laws.carries_composes.Goals as goal

pub returns : goal.returns
returns c = record { itself = carries_itself; composes = carries_composes }
