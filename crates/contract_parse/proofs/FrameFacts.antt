-- How many constructs are open in a frame.
use Rattle.std.proofs.Common.{◌≤◌, arith}
use Rattle.contract_parse.specs.Heads.{greatest_depth}
use Rattle.contract_grammar.specs.declared.terms.Language.{Language}

-- no language allows more than a frame
pub deepest : (l : Language) → greatest_depth l ≤ 400
deepest Language.Contracts = omega arith
deepest Language.Code = omega arith
