use Rattle.contract_cli.proofs.ComposeFacts.{advances_compose}
use Rattle.contract_cli.proofs.laws.advances_compose.Goals as goal

pub returns : goal.returns
returns c = advances_compose
