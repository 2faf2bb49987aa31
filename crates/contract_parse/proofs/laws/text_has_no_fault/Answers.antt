use Rattle.contract_parse.proofs.TextFacts.{no_fault}
use Rattle.contract_parse.proofs.laws.text_has_no_fault.Goals as goal

pub returns : goal.returns
returns c = no_fault
