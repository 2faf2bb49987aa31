use Rattle.contract_parse.proofs.FrontGoesOn.{fronts_go_on}
use Rattle.contract_parse.proofs.laws.fronts_go_on.Goals as goal

pub returns : goal.returns
returns c = fronts_go_on
