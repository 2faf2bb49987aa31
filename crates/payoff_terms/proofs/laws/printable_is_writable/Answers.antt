use Rattle.payoff_terms.proofs.WritableFacts.{printable_writable}
use Rattle.payoff_terms.proofs.laws.printable_is_writable.Goals as goal

pub returns : goal.returns
returns c = printable_writable
