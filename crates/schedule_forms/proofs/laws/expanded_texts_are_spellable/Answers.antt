use Rattle.schedule_forms.proofs.ExpandedTexts.{expanded_spellable}
use Rattle.schedule_forms.proofs.laws.expanded_texts_are_spellable.Goals as goal

pub returns : goal.returns
returns c = expanded_spellable
