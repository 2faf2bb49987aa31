use Rattle.std.proofs.Common.{◌≡◌, ◌∷◌, refl, sym, true, false, rules}
use Rattle.std.specs.Prelude.{codes}
use Rattle.std.proofs.lemmas.Result.{IfOk-weaker}
use Rattle.contract_grammar.specs.Judgements.{literal_at}
use Rattle.contract_grammar.specs.Words.{is_the_mark}
use Rattle.contract_grammar.specs.Tokens.{tokens}
use Rattle.contract_parse.specs.Expecting.{LiteralNumber}
use Rattle.contract_parse.specs.Reading.{tok_of}
use Rattle.contract_parse.proofs.Steps.{so_spells, spells}
use Rattle.contract_grammar.proofs.Parts.{followed_by}
use Rattle.schedule_forms.specs.PlanExpecting.{DecimalAt, Next, Token, judged, plan_step}
use Rattle.schedule_forms.proofs.PlanSteps.{plan_passes, plan_refuses, plan_so_passes}
use Rattle.schedule_forms.proofs.readers.read_decimal.Goals as goal

pub returns-then-is_the_mark : goal.returns-then-is_the_mark
returns-then-is_the_mark c = record {
  reads = record {
    follows = λ names ps. rw (plan_so_passes (is_the_mark (codes "-")) (λ text left. (refl, refl)) names (DecimalAt ∷ ps) (Token (LiteralNumber true) ∷ ps) (judged (literal_at false (tok_of c.next.result.0)) (λ d. Next names ps)) (tok_of c.next.result.0) c.args.rest.now c.next.result.1.now c.next.ensures.starts c.if-is_the_mark.ensures refl) (c.read_decimal_behind_sign.ensures.reads.follows names ps);
    spelled = IfOk-weaker c.read_decimal_behind_sign.result _ _ (λ r h. record { negative = true; spelled = followed_by (tokens c.next.result.1.now) (so_spells (is_the_mark (codes "-")) (λ text left. (refl, refl)) (tok_of c.next.result.0) c.args.rest.now c.next.result.1.now c.next.ensures.starts c.if-is_the_mark.ensures) h }) c.read_decimal_behind_sign.ensures.reads.spelled;
    shorter = search rules;
  };
}

pub returns-in-Ok : goal.returns-in-Ok
returns-in-Ok c = record {
  reads = record {
    follows = λ names ps.
        let shape : plan_step names (DecimalAt ∷ ps) (tok_of c.next.result.0) ≡ judged (literal_at false (tok_of c.next.result.0)) (λ d. Next names ps) = rw (sym c.if-is_the_mark.ensures) refl in
        plan_passes (literal_at false) (λ text left. (refl, refl)) names names (DecimalAt ∷ ps) ps (λ d. Next names ps) c.in-Ok.number (tok_of c.next.result.0) c.args.rest.now c.next.result.1.now c.next.ensures.starts c.in-Ok.ensures.value shape refl;
    spelled = record { negative = false; spelled = followed_by (tokens c.args.rest.now) refl (spells (literal_at false) (λ text left. (refl, refl)) c.in-Ok.number (tok_of c.next.result.0) c.args.rest.now c.next.result.1.now c.next.ensures.starts c.in-Ok.ensures.value) };
    shorter = search rules;
  };
}

pub returns-in-Err : goal.returns-in-Err
returns-in-Err c = record {
  reads = record {
    follows = λ names ps.
        let shape : plan_step names (DecimalAt ∷ ps) (tok_of c.next.result.0) ≡ judged (literal_at false (tok_of c.next.result.0)) (λ d. Next names ps) = rw (sym c.if-is_the_mark.ensures) refl in
        rw c.refuse.ensures (plan_refuses (literal_at false) names (DecimalAt ∷ ps) (λ d. Next names ps) c.in-Err.kind (tok_of c.next.result.0) c.args.rest.now c.next.result.1.now c.next.ensures.starts c.in-Err.ensures.value shape);
    spelled = search rules;
    shorter = search rules;
  };
}
