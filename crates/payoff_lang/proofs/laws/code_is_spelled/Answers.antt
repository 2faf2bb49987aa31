use Rattle.payoff_lang.proofs.CodeSpelled.{code_spelled}
use Rattle.payoff_lang.proofs.laws.code_is_spelled.Goals as goal

pub returns : goal.returns
returns c = λ d n k names f h low. code_spelled d names n k f h low
