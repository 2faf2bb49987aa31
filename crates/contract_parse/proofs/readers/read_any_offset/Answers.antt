use Rattle.std.proofs.lemmas.Int.{to_z-of_z}
use Rattle.contract_parse.proofs.NumberFacts.{fits_small}
use Rattle.std.proofs.Common.{w32, ◌≡◌, ◌∷◌, refl, sym, true, false, rules}
use Rattle.std.specs.Prelude.{codes}
use Rattle.std.proofs.lemmas.Result.{IfOk-weaker}
use Rattle.contract_grammar.specs.Judgements.{offset_at}
use Rattle.contract_grammar.specs.Words.{is_the_mark}
use Rattle.contract_grammar.specs.Tokens.{tokens}
use Rattle.contract_parse.specs.Expecting.{OffsetAt, OffsetNumber, Next, judged, step}
use Rattle.contract_parse.specs.Reading.{tok_of}
use Rattle.contract_parse.proofs.Steps.{passes, refuses, so_passes, so_spells, spells}
use Rattle.contract_grammar.proofs.Parts.{followed_by}
use Rattle.contract_parse.proofs.readers.read_any_offset.Goals as goal

pub returns-then-is_the_mark : goal.returns-then-is_the_mark
returns-then-is_the_mark c = record {
  reads = record {
    follows = λ s ps. rw (so_passes (is_the_mark (codes "-")) (λ text left. (refl, refl)) s s (OffsetAt ∷ ps) (OffsetNumber true ∷ ps) (judged (offset_at false (tok_of c.next.result.0)) (λ n. Next s ps)) (tok_of c.next.result.0) c.args.rest.now c.next.result.1.now c.next.ensures.starts c.if-is_the_mark.ensures refl) (c.read_offset_number.ensures.reads.follows s ps);
    spelled = IfOk-weaker c.read_offset_number.result _ _ (λ r h. record { negative = true; spelled = followed_by (tokens c.next.result.1.now) (so_spells (is_the_mark (codes "-")) (λ text left. (refl, refl)) (tok_of c.next.result.0) c.args.rest.now c.next.result.1.now c.next.ensures.starts c.if-is_the_mark.ensures) h }) c.read_offset_number.ensures.reads.spelled;
    shorter = search rules;
  };
}

pub returns-in-Ok : goal.returns-in-Ok
returns-in-Ok c = record {
  reads = record {
    follows = λ s ps. let shape : step s (OffsetAt ∷ ps) (tok_of c.next.result.0) ≡ judged (offset_at false (tok_of c.next.result.0)) (λ n. Next s ps) = rw (sym c.if-is_the_mark.ensures) refl in passes (offset_at false) (λ text left. (refl, refl)) s s (OffsetAt ∷ ps) ps (λ n. Next s ps) c.in-Ok.offset (tok_of c.next.result.0) c.args.rest.now c.next.result.1.now c.next.ensures.starts c.in-Ok.ensures.value shape refl;
    spelled = let same = to_z-of_z w32 c.in-Ok.offset (fits_small c.in-Ok.offset c.in-Ok.ensures.small) in rw same (record { negative = false; spelled = followed_by (tokens c.args.rest.now) refl (spells (offset_at false) (λ text left. (refl, refl)) c.in-Ok.offset (tok_of c.next.result.0) c.args.rest.now c.next.result.1.now c.next.ensures.starts c.in-Ok.ensures.value) });
    shorter = search rules;
  };
}

pub returns-in-Err : goal.returns-in-Err
returns-in-Err c = record {
  reads = record {
    follows = λ s ps. let shape : step s (OffsetAt ∷ ps) (tok_of c.next.result.0) ≡ judged (offset_at false (tok_of c.next.result.0)) (λ n. Next s ps) = rw (sym c.if-is_the_mark.ensures) refl in rw c.refuse.ensures (refuses (offset_at false) s (OffsetAt ∷ ps) (λ n. Next s ps) c.in-Err.kind (tok_of c.next.result.0) c.args.rest.now c.next.result.1.now c.next.ensures.starts c.in-Err.ensures.value shape);
    spelled = search rules;
    shorter = search rules;
  };
}
