use Rattle.contract_cli.proofs.LawFacts.{statuses_are_exact, statuses_over_files_are_exact}
use Rattle.contract_cli.proofs.laws.statuses_are_exact.Goals as goal

pub returns : goal.returns
returns c = record { run = statuses_are_exact; files = statuses_over_files_are_exact }
