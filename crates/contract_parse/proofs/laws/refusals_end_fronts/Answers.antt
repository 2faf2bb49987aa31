use Rattle.contract_parse.proofs.FrontRuns.{refusals_end_fronts}
use Rattle.contract_parse.proofs.laws.refusals_end_fronts.Goals as goal

pub returns : goal.returns
returns c = refusals_end_fronts
