use Rattle.std.proofs.Common.{refl, arith}
use Rattle.contract_grammar.specs.Judgements.{integer_at}
use Rattle.contract_parse.specs.Expecting.{IntegerAt}
use Rattle.contract_parse.proofs.Passing.{behind_gap, valued_at_once}
use Rattle.contract_parse.proofs.readers.read_integer.Goals as goal

pub returns-in-Some-clause-reads : goal.returns-in-Some-clause-reads
returns-in-Some-clause-reads c =
    valued_at_once (integer_at c.args.most) (λ r. r.0) (λ r. r.1.now) (IntegerAt c.args.most) c.in-Some.found c.from_token-start.result.now c.args.rest.now (λ s ps t. refl)
    c.from_token-start.ensures.same (omega (arith, c.in-Some.ensures.shorter, c.from_token-start.ensures.within)) c.in-Some.ensures.found

pub returns-in-None-clause-reads : goal.returns-in-None-clause-reads
returns-in-None-clause-reads c = behind_gap (λ r. r.1.now) c.from_token-start.result.now c.args.rest.now c.read_any_integer.result c.from_token-start.ensures.same c.from_token-start.ensures.within c.read_any_integer.ensures.reads
