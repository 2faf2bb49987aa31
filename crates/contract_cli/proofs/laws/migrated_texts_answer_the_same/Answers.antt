use Rattle.contract_cli.proofs.MigratedRuns.{migrated_texts_advance, migrated_texts_are_checked, migrated_texts_are_listed}
use Rattle.contract_cli.proofs.laws.migrated_texts_answer_the_same.Goals as goal

pub returns : goal.returns
returns c = record { checked = migrated_texts_are_checked; listed = migrated_texts_are_listed; advanced = migrated_texts_advance }
