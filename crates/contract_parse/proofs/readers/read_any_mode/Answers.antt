use Rattle.std.proofs.Common.{◌∷◌, refl, rules}
use Rattle.contract_grammar.specs.Judgements.{mode_at}
use Rattle.contract_parse.specs.Expecting.{ModeAt, Next}
use Rattle.contract_parse.specs.Reading.{tok_of}
use Rattle.contract_parse.proofs.Passing.{stopped}
use Rattle.contract_parse.proofs.Steps.{passes, refuses, spells}
use Rattle.contract_parse.proofs.readers.read_any_mode.Goals as goal

pub returns-in-Ok : goal.returns-in-Ok
returns-in-Ok c = record {
  reads = record {
    follows = λ s ps. passes mode_at (λ text left. (refl, refl)) s s (ModeAt ∷ ps) ps (λ m. Next s ps) c.in-Ok.mode (tok_of c.next.result.0) c.args.rest.now c.next.result.1.now c.next.ensures.starts c.in-Ok.ensures refl refl;
    spelled = spells mode_at (λ text left. (refl, refl)) c.in-Ok.mode (tok_of c.next.result.0) c.args.rest.now c.next.result.1.now c.next.ensures.starts c.in-Ok.ensures;
    shorter = search rules;
  };
}

pub returns-in-Err : goal.returns-in-Err
returns-in-Err c = record { reads = stopped (λ s ps. rw c.refuse.ensures (refuses mode_at s (ModeAt ∷ ps) (λ m. Next s ps) c.in-Err.kind (tok_of c.next.result.0) c.args.rest.now c.next.result.1.now c.next.ensures.starts c.in-Err.ensures refl)) }
