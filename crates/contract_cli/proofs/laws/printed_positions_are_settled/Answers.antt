use Rattle.contract_cli.proofs.NettingTexts.{printed_positions_balance, printed_settlements_settle, settlements_settle_positions}
use Rattle.contract_cli.proofs.laws.printed_positions_are_settled.Goals as goal

pub returns : goal.returns
returns c = record { positions = printed_positions_balance; settlements = printed_settlements_settle; both = settlements_settle_positions }
