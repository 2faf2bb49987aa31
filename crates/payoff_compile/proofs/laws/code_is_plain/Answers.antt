use Rattle.payoff_compile.proofs.PlainFacts.{code_plain}
use Rattle.payoff_compile.proofs.laws.code_is_plain.Goals as goal

pub returns : goal.returns
returns c = code_plain
