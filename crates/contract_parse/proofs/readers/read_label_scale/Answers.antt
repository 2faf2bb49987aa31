use Rattle.std.proofs.Common.{◌∷◌, refl, rules}
use Rattle.contract_grammar.specs.Judgements.{integer_at}
use Rattle.contract_parse.specs.Expecting.{ScaleAt, Next, range_expected}
use Rattle.contract_parse.specs.Reading.{tok_of}
use Rattle.contract_parse.proofs.Passing.{stopped}
use Rattle.contract_parse.proofs.Steps.{passes, refuses, spells}
use Rattle.contract_parse.proofs.readers.read_label_scale.Goals as goal

pub returns-in-Ok-clause-reads : goal.returns-in-Ok-clause-reads
returns-in-Ok-clause-reads c = record {
  follows = λ s ps. passes (integer_at 18) (λ text left. (refl, refl)) s s (ScaleAt ∷ ps) (range_expected c.in-Ok.scale ps) (λ m. Next s (range_expected m ps)) c.in-Ok.scale (tok_of c.next.result.0) c.args.rest.now c.next.result.1.now c.next.ensures.starts c.in-Ok.ensures.value refl refl;
  spelled = spells (integer_at 18) (λ text left. (refl, refl)) c.in-Ok.scale (tok_of c.next.result.0) c.args.rest.now c.next.result.1.now c.next.ensures.starts c.in-Ok.ensures.value;
  shorter = search rules;
}

pub returns-in-Err-clause-reads : goal.returns-in-Err-clause-reads
returns-in-Err-clause-reads c = stopped (λ s ps. rw c.refuse.ensures (refuses (integer_at 18) s (ScaleAt ∷ ps) (λ m. Next s (range_expected m ps)) c.in-Err.kind (tok_of c.next.result.0) c.args.rest.now c.next.result.1.now c.next.ensures.starts c.in-Err.ensures.value refl))
