use Rattle.contract_parse.proofs.OneText.{one_text}
use Rattle.contract_parse.proofs.laws.one_reading.Goals as goal

pub returns : goal.returns
returns c = one_text
