use Rattle.std.proofs.Common.{◌∷◌, refl, rules}
use Rattle.contract_grammar.specs.Judgements.{integer_at}
use Rattle.contract_parse.specs.Expecting.{IntegerAt, Next}
use Rattle.contract_parse.specs.Reading.{tok_of}
use Rattle.contract_parse.proofs.Passing.{stopped}
use Rattle.contract_parse.proofs.Steps.{passes, refuses, spells}
use Rattle.contract_parse.proofs.readers.read_any_integer.Goals as goal

pub returns-in-Ok-clause-reads : goal.returns-in-Ok-clause-reads
returns-in-Ok-clause-reads c = record {
  follows = λ s ps. passes (integer_at c.args.most) (λ text left. (refl, refl)) s s (IntegerAt c.args.most ∷ ps) ps (λ m. Next s ps) c.in-Ok.number (tok_of c.next.result.0) c.args.rest.now c.next.result.1.now c.next.ensures.starts c.in-Ok.ensures.value refl refl;
  spelled = spells (integer_at c.args.most) (λ text left. (refl, refl)) c.in-Ok.number (tok_of c.next.result.0) c.args.rest.now c.next.result.1.now c.next.ensures.starts c.in-Ok.ensures.value;
  shorter = search rules;
}

pub returns-in-Err-clause-reads : goal.returns-in-Err-clause-reads
returns-in-Err-clause-reads c = stopped (λ s ps. rw c.refuse.ensures (refuses (integer_at c.args.most) s (IntegerAt c.args.most ∷ ps) (λ m. Next s ps) c.in-Err.kind (tok_of c.next.result.0) c.args.rest.now c.next.result.1.now c.next.ensures.starts c.in-Err.ensures.value refl))
