use Rattle.std.proofs.Common.{◌∷◌, refl, rules}
use Rattle.contract_grammar.specs.Versions.{One}
use Rattle.contract_grammar.specs.Judgements.{days_at}
use Rattle.contract_parse.specs.Expecting.{DaysAt, Next}
use Rattle.contract_parse.specs.Reading.{tok_of}
use Rattle.contract_parse.proofs.Passing.{stopped}
use Rattle.contract_parse.proofs.Steps.{passes, refuses, spells}
use Rattle.contract_grammar.proofs.NameFacts.{days_named, days_none, days_number, days_wide, use_none, use_some, use_unknown}
use Rattle.indexmap.specs.IndexMap.{keys}
use Rattle.contract_grammar.specs.declared.faults.TextKind.TheVariants.{Syntax, Unknown}
use Rattle.term_model.specs.DayCounts.{Num, Named}
use Rattle.contract_parse.proofs.days.read_any_count.Goals as goal

pub returns-in-Ok : goal.returns-in-Ok
returns-in-Ok c = record {
  reads = record {
    follows = λ s ps. passes (days_at (keys c.args.templates.now)) (λ text left. (refl, refl)) s s (DaysAt One (keys c.args.templates.now) ∷ ps) ps (λ d. Next s ps) (Num c.in-Ok.days) (tok_of c.next.result.0) c.args.rest.now c.next.result.1.now c.next.ensures.starts (days_number (keys c.args.templates.now) (tok_of c.next.result.0) c.in-Ok.days c.if-is_integer.ensures c.in-Ok.ensures.value) refl refl;
    spelled = spells (days_at (keys c.args.templates.now)) (λ text left. (refl, refl)) (Num c.in-Ok.days) (tok_of c.next.result.0) c.args.rest.now c.next.result.1.now c.next.ensures.starts (days_number (keys c.args.templates.now) (tok_of c.next.result.0) c.in-Ok.days c.if-is_integer.ensures c.in-Ok.ensures.value);
    shorter = search rules;
  };
}

pub returns-in-Err : goal.returns-in-Err
returns-in-Err c = record { reads = stopped (λ s ps. rw c.refuse.ensures (refuses (days_at (keys c.args.templates.now)) s (DaysAt One (keys c.args.templates.now) ∷ ps) (λ d. Next s ps) c.in-Err.kind (tok_of c.next.result.0) c.args.rest.now c.next.result.1.now c.next.ensures.starts (days_wide (keys c.args.templates.now) (tok_of c.next.result.0) c.in-Err.kind c.if-is_integer.ensures c.in-Err.ensures.value) refl)) }

pub returns-then-not-is_name : goal.returns-then-not-is_name
returns-then-not-is_name c = record { reads = stopped (λ s ps. rw c.refuse-then-not-is_name.ensures (refuses (days_at (keys c.args.templates.now)) s (DaysAt One (keys c.args.templates.now) ∷ ps) (λ d. Next s ps) Syntax (tok_of c.next.result.0) c.args.rest.now c.next.result.1.now c.next.ensures.starts (days_none (keys c.args.templates.now) (tok_of c.next.result.0) Syntax c.if-is_integer.ensures (use_none (keys c.args.templates.now) (tok_of c.next.result.0) c.if-not-is_name.ensures)) refl)) }

pub returns-in-Some : goal.returns-in-Some
returns-in-Some c = record {
  reads = record {
    follows = λ s ps. passes (days_at (keys c.args.templates.now)) (λ text left. (refl, refl)) s s (DaysAt One (keys c.args.templates.now) ∷ ps) ps (λ d. Next s ps) (Named c.in-Some.template) (tok_of c.next.result.0) c.args.rest.now c.next.result.1.now c.next.ensures.starts (days_named (keys c.args.templates.now) (tok_of c.next.result.0) c.in-Some.template c.if-is_integer.ensures (use_some (keys c.args.templates.now) (tok_of c.next.result.0) c.in-Some.template c.if-not-is_name.ensures c.in-Some.ensures)) refl refl;
    spelled = spells (days_at (keys c.args.templates.now)) (λ text left. (refl, refl)) (Named c.in-Some.template) (tok_of c.next.result.0) c.args.rest.now c.next.result.1.now c.next.ensures.starts (days_named (keys c.args.templates.now) (tok_of c.next.result.0) c.in-Some.template c.if-is_integer.ensures (use_some (keys c.args.templates.now) (tok_of c.next.result.0) c.in-Some.template c.if-not-is_name.ensures c.in-Some.ensures));
    shorter = search rules;
  };
}

pub returns-in-None : goal.returns-in-None
returns-in-None c = record { reads = stopped (λ s ps. rw c.refuse-in-None.ensures (refuses (days_at (keys c.args.templates.now)) s (DaysAt One (keys c.args.templates.now) ∷ ps) (λ d. Next s ps) Unknown (tok_of c.next.result.0) c.args.rest.now c.next.result.1.now c.next.ensures.starts (days_none (keys c.args.templates.now) (tok_of c.next.result.0) Unknown c.if-is_integer.ensures (use_unknown (keys c.args.templates.now) (tok_of c.next.result.0) c.if-not-is_name.ensures c.in-None.ensures)) refl)) }
