use Rattle.payoff_lang.proofs.TemplateDays.{templates_short}
use Rattle.payoff_lang.proofs.laws.templates_of_code_are_short.Goals as goal

pub returns : goal.returns
returns c = templates_short
