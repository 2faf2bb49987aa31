use Rattle.std.proofs.Common.{refl, arith}
use Rattle.contract_grammar.specs.Judgements.{mode_at}
use Rattle.contract_parse.specs.Expecting.{ModeAt}
use Rattle.contract_parse.proofs.Passing.{behind_gap, valued_at_once}
use Rattle.contract_parse.proofs.readers.read_mode.Goals as goal

pub returns-in-Some : goal.returns-in-Some
returns-in-Some c = record {
  reads =
      valued_at_once mode_at (λ r. r.0) (λ r. r.1.now) ModeAt c.in-Some.found c.from_token-start.result.now c.args.rest.now (λ s ps t. refl)
      c.from_token-start.ensures.same (omega (arith, c.in-Some.ensures.shorter, c.from_token-start.ensures.within)) c.in-Some.ensures.found;
}

pub returns-in-None : goal.returns-in-None
returns-in-None c = record { reads = behind_gap (λ r. r.1.now) c.from_token-start.result.now c.args.rest.now c.read_any_mode.result c.from_token-start.ensures.same c.from_token-start.ensures.within c.read_any_mode.ensures.reads }
