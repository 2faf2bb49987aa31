use Rattle.contract_cli.proofs.LawFacts.{done_has_told, run_is_complete}
use Rattle.contract_cli.proofs.laws.run_is_complete.Goals as goal

pub returns : goal.returns
returns c = record { complete = run_is_complete; done = done_has_told }
