use Rattle.std.proofs.lemmas.Int.{to_z-of_z}
use mir.Syntax.{w128}
use Rattle.contract_parse.proofs.NumberFacts.{fits_wide}
use Rattle.std.proofs.Common.{◌≡◌, ◌∷◌, refl, sym, true, false, rules}
use Rattle.std.specs.Prelude.{codes}
use Rattle.std.proofs.lemmas.Result.{IfOk-weaker}
use Rattle.contract_grammar.specs.Judgements.{bound_at}
use Rattle.contract_grammar.specs.Words.{is_the_mark}
use Rattle.contract_grammar.specs.Tokens.{tokens}
use Rattle.contract_parse.specs.Expecting.{BoundAt, BoundNumber, Next, bound_expected, judged, step}
use Rattle.contract_parse.specs.Reading.{tok_of}
use Rattle.contract_parse.proofs.Steps.{passes, refuses, so_passes, so_spells, spells}
use Rattle.contract_grammar.proofs.Parts.{followed_by}
use Rattle.contract_parse.proofs.readers.read_bound.Goals as goal

pub returns-then-is_the_mark-clause-reads : goal.returns-then-is_the_mark-clause-reads
returns-then-is_the_mark-clause-reads c = record {
  follows = λ s ps. rw (so_passes (is_the_mark (codes "-")) (λ text left. (refl, refl)) s s (BoundAt c.args.scale c.args.low ∷ ps) (BoundNumber true c.args.scale c.args.low ∷ ps) (judged (bound_at false c.args.scale c.args.low (tok_of c.next.result.0)) (λ m. Next s (bound_expected c.args.scale c.args.low m ps))) (tok_of c.next.result.0) c.args.rest.now c.next.result.1.now c.next.ensures.starts c.if-is_the_mark.ensures refl) (c.read_bound_number.ensures.reads.follows s ps);
  spelled = IfOk-weaker c.read_bound_number.result _ _ (λ r h. record { negative = true; spelled = followed_by (tokens c.next.result.1.now) (so_spells (is_the_mark (codes "-")) (λ text left. (refl, refl)) (tok_of c.next.result.0) c.args.rest.now c.next.result.1.now c.next.ensures.starts c.if-is_the_mark.ensures) h }) c.read_bound_number.ensures.reads.spelled;
  shorter = search rules;
}

pub returns-in-Ok-clause-reads : goal.returns-in-Ok-clause-reads
returns-in-Ok-clause-reads c = record {
  follows = λ s ps. let same = to_z-of_z w128 c.in-Ok.mant (fits_wide c.in-Ok.mant c.in-Ok.ensures.size) in rw same (let shape : step s (BoundAt c.args.scale c.args.low ∷ ps) (tok_of c.next.result.0) ≡ judged (bound_at false c.args.scale c.args.low (tok_of c.next.result.0)) (λ m. Next s (bound_expected c.args.scale c.args.low m ps)) = rw (sym c.if-is_the_mark.ensures) refl in passes (bound_at false c.args.scale c.args.low) (λ text left. (refl, refl)) s s (BoundAt c.args.scale c.args.low ∷ ps) (bound_expected c.args.scale c.args.low c.in-Ok.mant ps) (λ m. Next s (bound_expected c.args.scale c.args.low m ps)) c.in-Ok.mant (tok_of c.next.result.0) c.args.rest.now c.next.result.1.now c.next.ensures.starts c.in-Ok.ensures.value shape refl);
  spelled = let same = to_z-of_z w128 c.in-Ok.mant (fits_wide c.in-Ok.mant c.in-Ok.ensures.size) in rw same (record { negative = false; spelled = followed_by (tokens c.args.rest.now) refl (spells (bound_at false c.args.scale c.args.low) (λ text left. (refl, refl)) c.in-Ok.mant (tok_of c.next.result.0) c.args.rest.now c.next.result.1.now c.next.ensures.starts c.in-Ok.ensures.value) });
  shorter = search rules;
}

pub returns-in-Err-clause-reads : goal.returns-in-Err-clause-reads
returns-in-Err-clause-reads c = record {
  follows = λ s ps. let shape : step s (BoundAt c.args.scale c.args.low ∷ ps) (tok_of c.next.result.0) ≡ judged (bound_at false c.args.scale c.args.low (tok_of c.next.result.0)) (λ m. Next s (bound_expected c.args.scale c.args.low m ps)) = rw (sym c.if-is_the_mark.ensures) refl in rw c.refuse.ensures (refuses (bound_at false c.args.scale c.args.low) s (BoundAt c.args.scale c.args.low ∷ ps) (λ m. Next s (bound_expected c.args.scale c.args.low m ps)) c.in-Err.kind (tok_of c.next.result.0) c.args.rest.now c.next.result.1.now c.next.ensures.starts c.in-Err.ensures.value shape);
  spelled = search rules;
  shorter = search rules;
}
