use Rattle.std.proofs.lemmas.Int.{to_z-of_z}
use Rattle.contract_parse.proofs.NumberFacts.{fits_small}
use Rattle.std.proofs.Common.{w32, ◌∷◌, refl, rules}
use Rattle.contract_grammar.specs.Judgements.{offset_at}
use Rattle.contract_parse.specs.Expecting.{OffsetNumber, Next}
use Rattle.contract_parse.specs.Reading.{tok_of}
use Rattle.contract_parse.proofs.Passing.{stopped}
use Rattle.contract_parse.proofs.Steps.{passes, refuses, spells}
use Rattle.contract_parse.proofs.readers.read_offset_number.Goals as goal

pub returns-in-Ok : goal.returns-in-Ok
returns-in-Ok c = record {
  reads = record {
    follows = λ s ps. passes (offset_at c.args.negative) (λ text left. (refl, refl)) s s (OffsetNumber c.args.negative ∷ ps) ps (λ m. Next s ps) c.in-Ok.offset (tok_of c.next.result.0) c.args.rest.now c.next.result.1.now c.next.ensures.starts c.in-Ok.ensures.value refl refl;
    spelled = let same = to_z-of_z w32 c.in-Ok.offset (fits_small c.in-Ok.offset c.in-Ok.ensures.small) in rw same (spells (offset_at c.args.negative) (λ text left. (refl, refl)) c.in-Ok.offset (tok_of c.next.result.0) c.args.rest.now c.next.result.1.now c.next.ensures.starts c.in-Ok.ensures.value);
    shorter = search rules;
  };
}

pub returns-in-Err : goal.returns-in-Err
returns-in-Err c = record { reads = stopped (λ s ps. rw c.refuse.ensures (refuses (offset_at c.args.negative) s (OffsetNumber c.args.negative ∷ ps) (λ m. Next s ps) c.in-Err.kind (tok_of c.next.result.0) c.args.rest.now c.next.result.1.now c.next.ensures.starts c.in-Err.ensures.value refl)) }
