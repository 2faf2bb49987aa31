use Rattle.std.proofs.lemmas.Int.{to_z-of_z}
use mir.Syntax.{w128}
use Rattle.contract_parse.proofs.NumberFacts.{fits_wide}
use Rattle.std.proofs.Common.{◌∷◌, refl, rules}
use Rattle.contract_grammar.specs.Judgements.{bound_at}
use Rattle.contract_parse.specs.Expecting.{BoundNumber, Next, bound_expected}
use Rattle.contract_parse.specs.Reading.{tok_of}
use Rattle.contract_parse.proofs.Passing.{stopped}
use Rattle.contract_parse.proofs.Steps.{passes, refuses, spells}
use Rattle.contract_parse.proofs.readers.read_bound_number.Goals as goal

pub returns-in-Ok-clause-reads : goal.returns-in-Ok-clause-reads
returns-in-Ok-clause-reads c = record {
  follows = λ s ps. let same = to_z-of_z w128 c.in-Ok.mant (fits_wide c.in-Ok.mant c.in-Ok.ensures.size) in rw same (passes (bound_at c.args.negative c.args.scale c.args.low) (λ text left. (refl, refl)) s s (BoundNumber c.args.negative c.args.scale c.args.low ∷ ps) (bound_expected c.args.scale c.args.low c.in-Ok.mant ps) (λ m. Next s (bound_expected c.args.scale c.args.low m ps)) c.in-Ok.mant (tok_of c.next.result.0) c.args.rest.now c.next.result.1.now c.next.ensures.starts c.in-Ok.ensures.value refl refl);
  spelled = let same = to_z-of_z w128 c.in-Ok.mant (fits_wide c.in-Ok.mant c.in-Ok.ensures.size) in rw same (spells (bound_at c.args.negative c.args.scale c.args.low) (λ text left. (refl, refl)) c.in-Ok.mant (tok_of c.next.result.0) c.args.rest.now c.next.result.1.now c.next.ensures.starts c.in-Ok.ensures.value);
  shorter = search rules;
}

pub returns-in-Err-clause-reads : goal.returns-in-Err-clause-reads
returns-in-Err-clause-reads c = stopped (λ s ps. rw c.refuse.ensures (refuses (bound_at c.args.negative c.args.scale c.args.low) s (BoundNumber c.args.negative c.args.scale c.args.low ∷ ps) (λ m. Next s (bound_expected c.args.scale c.args.low m ps)) c.in-Err.kind (tok_of c.next.result.0) c.args.rest.now c.next.result.1.now c.next.ensures.starts c.in-Err.ensures.value refl))
