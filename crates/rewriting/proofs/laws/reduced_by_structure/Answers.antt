use Rattle.rewriting.proofs.ReducedFacts.{reduced_by_structure}
use Rattle.rewriting.proofs.laws.reduced_by_structure.Goals as goal

pub returns : goal.returns
returns c = reduced_by_structure
