use Rattle.contract_print.proofs.MigratedFacts.{one_scale_spellable}
use Rattle.contract_print.proofs.laws.one_scale_is_spellable.Goals as goal

pub returns : goal.returns
returns c = one_scale_spellable
