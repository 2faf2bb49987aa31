use Rattle.std.proofs.Common.{◌∷◌, refl, rules}
use Rattle.contract_grammar.specs.Judgements.{operator_at}
use Rattle.contract_parse.specs.Expecting.{OperatorAt, Next}
use Rattle.contract_parse.specs.Reading.{tok_of}
use Rattle.contract_parse.proofs.Passing.{stopped}
use Rattle.contract_parse.proofs.Steps.{passes, refuses, spells}
use Rattle.contract_parse.proofs.readers.read_operator.Goals as goal

pub returns-in-Ok-clause-reads : goal.returns-in-Ok-clause-reads
returns-in-Ok-clause-reads c = record {
  follows = λ s ps. passes operator_at (λ text left. (refl, refl)) s s (OperatorAt ∷ ps) ps (λ m. Next s ps) c.in-Ok.operator (tok_of c.next.result.0) c.args.rest.now c.next.result.1.now c.next.ensures.starts c.in-Ok.ensures.value refl refl;
  spelled = spells operator_at (λ text left. (refl, refl)) c.in-Ok.operator (tok_of c.next.result.0) c.args.rest.now c.next.result.1.now c.next.ensures.starts c.in-Ok.ensures.value;
  shorter = search rules;
}

pub returns-in-Err-clause-reads : goal.returns-in-Err-clause-reads
returns-in-Err-clause-reads c = stopped (λ s ps. rw c.refuse.ensures (refuses operator_at s (OperatorAt ∷ ps) (λ m. Next s ps) c.in-Err.kind (tok_of c.next.result.0) c.args.rest.now c.next.result.1.now c.next.ensures.starts c.in-Err.ensures.value refl))
