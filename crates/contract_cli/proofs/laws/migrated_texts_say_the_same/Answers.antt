use Rattle.contract_cli.proofs.MigrateFacts.{migrated_say_the_same, migrated_stay}
use Rattle.contract_cli.proofs.TwoRunFacts.{migrated_texts_are_texts}
use Rattle.contract_cli.proofs.laws.migrated_texts_say_the_same.Goals as goal

pub returns : goal.returns
returns c = record { texts = migrated_texts_are_texts; same = migrated_say_the_same; stay = migrated_stay }
