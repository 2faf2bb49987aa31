use Rattle.contract_cli.proofs.TwoRunFacts.{printed_code_is_taken, printed_code_is_valued}
use Rattle.contract_cli.proofs.laws.printed_code_is_valued.Goals as goal

pub returns : goal.returns
returns c = record { taken = printed_code_is_taken; valued = printed_code_is_valued }
