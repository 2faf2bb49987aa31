use Rattle.contract_parse.proofs.FrontRuns.{taken_tokens_are_fronts}
use Rattle.contract_parse.proofs.laws.taken_tokens_are_fronts.Goals as goal

pub returns : goal.returns
returns c = taken_tokens_are_fronts
