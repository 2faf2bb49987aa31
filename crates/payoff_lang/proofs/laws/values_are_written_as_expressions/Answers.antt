use Rattle.payoff_lang.proofs.NumberedFacts.{written_whole}
use Rattle.payoff_lang.proofs.laws.values_are_written_as_expressions.Goals as goal

pub returns : goal.returns
returns c = written_whole
