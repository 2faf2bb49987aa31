use Rattle.std.proofs.lemmas.Int.{to_z-of_z}
use Rattle.contract_parse.proofs.NumberFacts.{fits_days}
use Rattle.std.proofs.Common.{w32, ◌∷◌, refl, rules}
use Rattle.contract_grammar.specs.Judgements.{date_number_at}
use Rattle.contract_parse.specs.Expecting.{DateNumber, Next}
use Rattle.contract_parse.specs.Reading.{tok_of}
use Rattle.contract_parse.proofs.Passing.{stopped}
use Rattle.contract_parse.proofs.Steps.{passes, refuses, spells}
use Rattle.contract_parse.proofs.readers.read_days_behind_sign.Goals as goal

pub returns-in-Ok : goal.returns-in-Ok
returns-in-Ok c = record {
  reads = record {
    follows = λ s ps. passes (date_number_at c.args.negative) (λ text left. (refl, refl)) s s (DateNumber c.args.negative ∷ ps) ps (λ m. Next s ps) c.in-Ok.days (tok_of c.next.result.0) c.args.rest.now c.next.result.1.now c.next.ensures.starts c.in-Ok.ensures.value refl refl;
    spelled = let same = to_z-of_z w32 c.in-Ok.days (fits_days c.in-Ok.days c.in-Ok.ensures.small) in rw same (spells (date_number_at c.args.negative) (λ text left. (refl, refl)) c.in-Ok.days (tok_of c.next.result.0) c.args.rest.now c.next.result.1.now c.next.ensures.starts c.in-Ok.ensures.value);
    shorter = search rules;
  };
}

pub returns-in-Err : goal.returns-in-Err
returns-in-Err c = record { reads = stopped (λ s ps. rw c.refuse.ensures (refuses (date_number_at c.args.negative) s (DateNumber c.args.negative ∷ ps) (λ m. Next s ps) c.in-Err.kind (tok_of c.next.result.0) c.args.rest.now c.next.result.1.now c.next.ensures.starts c.in-Err.ensures.value refl)) }
