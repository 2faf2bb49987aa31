use Rattle.contract_grammar.proofs.TextSizes.{payments_bounded}
use Rattle.contract_grammar.proofs.laws.payments_are_bounded.Goals as goal

pub returns : goal.returns
returns c = payments_bounded
