use Rattle.payoff_lang.proofs.CodeCanonFacts.{code_canon_exists}
use Rattle.payoff_lang.proofs.laws.code_canon_exists.Goals as goal

pub returns : goal.returns
returns c = code_canon_exists
