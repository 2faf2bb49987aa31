use Rattle.contract_print.proofs.TextSpellable.{texts_spellable}
use Rattle.contract_print.proofs.laws.texts_are_spellable.Goals as goal

pub returns : goal.returns
returns c = texts_spellable
