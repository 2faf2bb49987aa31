use Rattle.payoff_lang.proofs.CodeFronts.{code_texts_whole}
use Rattle.payoff_lang.proofs.laws.code_texts_are_whole.Goals as goal

pub returns : goal.returns
returns c = code_texts_whole
