use Rattle.contract_cli.proofs.TwoRunFacts.{printed_code_is_taken_by_scenarios, printed_code_is_totalled}
use Rattle.contract_cli.proofs.laws.printed_code_is_totalled.Goals as goal

pub returns : goal.returns
returns c = record { taken = printed_code_is_taken_by_scenarios; totalled = printed_code_is_totalled }
