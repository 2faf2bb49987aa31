use Rattle.contract_parse.proofs.FrontRuns.{taken_texts_are_whole}
use Rattle.contract_parse.proofs.laws.taken_texts_are_whole.Goals as goal

pub returns : goal.returns
returns c = taken_texts_are_whole
