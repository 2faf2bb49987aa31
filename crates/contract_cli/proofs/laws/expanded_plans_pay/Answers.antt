use Rattle.contract_cli.proofs.ExpandTexts.{expanded_plans_are_listed, expanded_texts_are_accepted, expanded_texts_are_texts}
use Rattle.contract_cli.proofs.laws.expanded_plans_pay.Goals as goal

pub returns : goal.returns
returns c = record { texts = expanded_texts_are_texts; accepted = expanded_texts_are_accepted; listed = expanded_plans_are_listed }
