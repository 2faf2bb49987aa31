use Rattle.payoff_compile.proofs.WritableFacts.{terms_small}
use Rattle.payoff_compile.proofs.laws.writable_terms_have_small_literals.Goals as goal

pub returns : goal.returns
returns c = terms_small
