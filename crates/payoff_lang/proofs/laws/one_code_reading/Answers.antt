use Rattle.payoff_lang.proofs.OneCode.{one_code_text}
use Rattle.payoff_lang.proofs.laws.one_code_reading.Goals as goal

pub returns : goal.returns
returns c = one_code_text
