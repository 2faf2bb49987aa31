use Rattle.std.proofs.Common.{◌∷◌, refl, rules}
use Rattle.contract_grammar.specs.Judgements.{literal_at}
use Rattle.contract_parse.specs.Expecting.{LiteralNumber, Next}
use Rattle.contract_parse.specs.Reading.{tok_of}
use Rattle.contract_parse.proofs.Passing.{stopped}
use Rattle.contract_parse.proofs.Steps.{passes, refuses, spells}
use Rattle.contract_parse.proofs.readers.read_literal.Goals as goal

pub returns-in-Ok : goal.returns-in-Ok
returns-in-Ok c = record {
  reads = record {
    follows = λ s ps. passes (literal_at c.args.negative) (λ text left. (refl, refl)) s s (LiteralNumber c.args.negative ∷ ps) ps (λ m. Next s ps) c.in-Ok.number (tok_of c.next.result.0) c.args.rest.now c.next.result.1.now c.next.ensures.starts c.in-Ok.ensures.value refl refl;
    spelled = spells (literal_at c.args.negative) (λ text left. (refl, refl)) c.in-Ok.number (tok_of c.next.result.0) c.args.rest.now c.next.result.1.now c.next.ensures.starts c.in-Ok.ensures.value;
    shorter = search rules;
  };
}

pub returns-in-Err : goal.returns-in-Err
returns-in-Err c = record { reads = stopped (λ s ps. rw c.refuse.ensures (refuses (literal_at c.args.negative) s (LiteralNumber c.args.negative ∷ ps) (λ m. Next s ps) c.in-Err.kind (tok_of c.next.result.0) c.args.rest.now c.next.result.1.now c.next.ensures.starts c.in-Err.ensures.value refl)) }
