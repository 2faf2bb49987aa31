use Rattle.contract_cli.proofs.TwoRunFacts.{advanced_texts_advance, advanced_texts_are_accepted}
use Rattle.contract_cli.proofs.laws.advanced_texts_advance.Goals as goal

pub returns : goal.returns
returns c = record { carried = advanced_texts_advance; accepted = advanced_texts_are_accepted }
