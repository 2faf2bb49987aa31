use Rattle.payoff_lang.proofs.CodeCanonFacts.{one_canon_of_code}
use Rattle.payoff_lang.proofs.laws.one_canon_of_code.Goals as goal

pub returns : goal.returns
returns c = one_canon_of_code
