use Rattle.payoff_lang.proofs.CodeNumbers.{code_of_text_printable}
use Rattle.payoff_lang.proofs.laws.code_of_text_is_printable.Goals as goal

pub returns : goal.returns
returns c = code_of_text_printable
