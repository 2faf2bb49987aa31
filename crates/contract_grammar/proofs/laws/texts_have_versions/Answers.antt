use Rattle.contract_grammar.proofs.AssetFacts.{versions_are}
use Rattle.contract_grammar.proofs.laws.texts_have_versions.Goals as goal

pub returns : goal.returns
returns c = versions_are
