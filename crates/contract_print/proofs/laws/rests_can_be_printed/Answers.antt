use Rattle.contract_print.proofs.RestFacts.{rest_spelled, rest_written}
use Rattle.contract_print.proofs.laws.rests_can_be_printed.Goals as goal

pub returns : goal.returns
returns c = record { spelled = rest_spelled; written = rest_written }
