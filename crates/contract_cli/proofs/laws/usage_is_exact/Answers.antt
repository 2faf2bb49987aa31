use Rattle.contract_cli.proofs.LawFacts.{usage_is_exact, usage_writes_its_line}
use Rattle.contract_cli.proofs.laws.usage_is_exact.Goals as goal

pub returns : goal.returns
returns c = record { exact = usage_is_exact; line = usage_writes_its_line }
