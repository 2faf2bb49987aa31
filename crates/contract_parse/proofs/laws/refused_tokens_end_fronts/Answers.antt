use Rattle.contract_parse.proofs.FrontRuns.{refused_tokens_end_fronts}
use Rattle.contract_parse.proofs.laws.refused_tokens_end_fronts.Goals as goal

pub returns : goal.returns
returns c = refused_tokens_end_fronts
