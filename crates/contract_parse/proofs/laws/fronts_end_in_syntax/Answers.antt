use Rattle.contract_parse.proofs.FrontRuns.{fronts_end_in_syntax}
use Rattle.contract_parse.proofs.laws.fronts_end_in_syntax.Goals as goal

pub returns : goal.returns
returns c = fronts_end_in_syntax
