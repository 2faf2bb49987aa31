use Rattle.payoff_lang.proofs.CodeClosed.{code_of_text_closed}
use Rattle.payoff_lang.proofs.laws.code_of_text_is_closed.Goals as goal

pub returns : goal.returns
returns c = code_of_text_closed
