use Rattle.payoff_compile.proofs.WritableFacts.{plain_writable}
use Rattle.payoff_compile.proofs.laws.plain_code_is_writable.Goals as goal

pub returns : goal.returns
returns c = plain_writable
