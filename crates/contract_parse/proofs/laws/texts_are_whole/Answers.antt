use Rattle.contract_parse.proofs.FrontRuns.{texts_are_whole}
use Rattle.contract_parse.proofs.laws.texts_are_whole.Goals as goal

pub returns : goal.returns
returns c = texts_are_whole
