use Rattle.contract_cli.proofs.PayoffTexts.{payoff_texts_mean}
use Rattle.contract_cli.proofs.laws.payoff_texts_mean.Goals as goal

pub returns : goal.returns
returns c = payoff_texts_mean
