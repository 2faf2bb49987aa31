use Rattle.payoff_lang.proofs.CodeFaults.{no_code_fault}
use Rattle.payoff_lang.proofs.laws.code_text_has_no_fault.Goals as goal

pub returns : goal.returns
returns c = no_code_fault
