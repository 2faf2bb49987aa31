use Rattle.contract_cli.proofs.LawFacts.{too_long_comes, too_long_has_a_cause}
use Rattle.contract_cli.proofs.laws.too_long_is_exact.Goals as goal

pub returns : goal.returns
returns c = record { only = too_long_has_a_cause; comes = too_long_comes }
