use Rattle.contract_print.proofs.TextSpellable.{texts_writable}
use Rattle.contract_print.proofs.laws.texts_are_writable.Goals as goal

pub returns : goal.returns
returns c = texts_writable
