use Rattle.contract_cli.proofs.AdvanceTexts.{advance_texts_are_texts}
use Rattle.contract_cli.proofs.laws.advance_texts_are_texts.Goals as goal

pub returns : goal.returns
returns c = advance_texts_are_texts
