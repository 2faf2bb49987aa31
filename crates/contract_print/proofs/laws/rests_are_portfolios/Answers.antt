use Rattle.contract_print.proofs.RestFacts.{rest_accepted, rest_spellable}
use Rattle.contract_print.proofs.laws.rests_are_portfolios.Goals as goal

pub returns : goal.returns
returns c = record { spellable = rest_spellable; accepted = rest_accepted }
