use Rattle.payoff_lang.proofs.CodeTaken.{file_taken}
use Rattle.payoff_lang.proofs.laws.code_text_is_taken.Goals as goal

pub returns : goal.returns
returns c = file_taken
