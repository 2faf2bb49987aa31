use Rattle.std.proofs.lemmas.Int.{to_z-of_z}
use Rattle.contract_parse.proofs.NumberFacts.{fits_day}
use Rattle.std.proofs.Common.{w64, ◌∷◌, refl, rules}
use Rattle.contract_grammar.specs.Judgements.{origin_at}
use Rattle.contract_parse.specs.Expecting.{OriginDate, Next}
use Rattle.contract_parse.specs.Reading.{tok_of}
use Rattle.contract_parse.proofs.Passing.{stopped}
use Rattle.contract_parse.proofs.Steps.{passes, refuses, spells}
use Rattle.contract_parse.proofs.readers.read_origin_date.Goals as goal

pub returns-in-Ok-clause-reads : goal.returns-in-Ok-clause-reads
returns-in-Ok-clause-reads c = record {
  follows = λ s ps. passes origin_at (λ text left. (refl, refl)) s s (OriginDate ∷ ps) ps (λ m. Next s ps) c.in-Ok.day (tok_of c.next.result.0) c.args.rest.now c.next.result.1.now c.next.ensures.starts c.in-Ok.ensures.value refl refl;
  spelled = let same = to_z-of_z w64 c.in-Ok.day (fits_day c.in-Ok.day c.in-Ok.ensures.size) in rw same (spells origin_at (λ text left. (refl, refl)) c.in-Ok.day (tok_of c.next.result.0) c.args.rest.now c.next.result.1.now c.next.ensures.starts c.in-Ok.ensures.value);
  shorter = search rules;
}

pub returns-in-Err-clause-reads : goal.returns-in-Err-clause-reads
returns-in-Err-clause-reads c = stopped (λ s ps. rw c.refuse.ensures (refuses origin_at s (OriginDate ∷ ps) (λ m. Next s ps) c.in-Err.kind (tok_of c.next.result.0) c.args.rest.now c.next.result.1.now c.next.ensures.starts c.in-Err.ensures.value refl))
