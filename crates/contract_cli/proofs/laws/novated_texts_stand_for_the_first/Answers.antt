use Rattle.contract_cli.proofs.NovateRuns.{novated_texts_advance, novated_texts_are_accepted, novated_texts_are_listed}
use Rattle.contract_cli.proofs.laws.novated_texts_stand_for_the_first.Goals as goal

pub returns : goal.returns
returns c = record { accepted = novated_texts_are_accepted; listed = novated_texts_are_listed; advanced = novated_texts_advance }
