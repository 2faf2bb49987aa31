use Rattle.contract_grammar.proofs.AssetFacts.{assets_have}
use Rattle.contract_grammar.proofs.laws.assets_have_decimals.Goals as goal

pub returns : goal.returns
returns c = assets_have
