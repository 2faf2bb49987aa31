use Rattle.contract_cli.proofs.LawFacts.{answers_have_causes}
use Rattle.contract_cli.proofs.laws.answers_have_causes.Goals as goal

pub returns : goal.returns
returns c = answers_have_causes
