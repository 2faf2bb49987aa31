use Rattle.payoff_compile.proofs.PlainFacts.{cut_counts}
use Rattle.payoff_compile.proofs.laws.cut_code_counts_the_rest.Goals as goal

pub returns : goal.returns
returns c = cut_counts
