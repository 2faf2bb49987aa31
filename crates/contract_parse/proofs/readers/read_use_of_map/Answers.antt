use Rattle.std.proofs.Common.{◌∷◌, refl, rules}
use Rattle.contract_grammar.specs.Judgements.{use_at}
use Rattle.contract_parse.specs.Expecting.{UseOf, Next}
use Rattle.contract_parse.specs.Reading.{tok_of}
use Rattle.contract_parse.proofs.Passing.{stopped}
use Rattle.contract_parse.proofs.Steps.{passes, refuses, spells}
use Rattle.contract_grammar.proofs.NameFacts.{use_none, use_some, use_unknown}
use Rattle.indexmap.specs.IndexMap.{keys}
use Rattle.contract_grammar.specs.declared.faults.TextKind.TheVariants.{Syntax, Unknown}
use Rattle.contract_parse.proofs.readers.read_use_of_map.Goals as goal

pub returns-then-not-is_name : goal.returns-then-not-is_name
returns-then-not-is_name g c = record { reads = stopped (λ s ps. rw c.refuse.ensures (refuses (use_at (keys c.args.names.now)) s (UseOf (keys c.args.names.now) ∷ ps) (λ i. Next s ps) Syntax (tok_of c.next.result.0) c.args.rest.now c.next.result.1.now c.next.ensures.starts (use_none (keys c.args.names.now) (tok_of c.next.result.0) c.if-not-is_name.ensures) refl)) }

pub returns-in-Some : goal.returns-in-Some
returns-in-Some g c = record {
  reads = record {
    follows = λ s ps. passes (use_at (keys c.args.names.now)) (λ text left. (refl, refl)) s s (UseOf (keys c.args.names.now) ∷ ps) ps (λ i. Next s ps) c.in-Some.index (tok_of c.next.result.0) c.args.rest.now c.next.result.1.now c.next.ensures.starts (use_some (keys c.args.names.now) (tok_of c.next.result.0) c.in-Some.index c.if-not-is_name.ensures c.in-Some.ensures) refl refl;
    spelled = spells (use_at (keys c.args.names.now)) (λ text left. (refl, refl)) c.in-Some.index (tok_of c.next.result.0) c.args.rest.now c.next.result.1.now c.next.ensures.starts (use_some (keys c.args.names.now) (tok_of c.next.result.0) c.in-Some.index c.if-not-is_name.ensures c.in-Some.ensures);
    shorter = search rules;
  };
}

pub returns-in-None : goal.returns-in-None
returns-in-None g c = record { reads = stopped (λ s ps. rw c.refuse-in-None.ensures (refuses (use_at (keys c.args.names.now)) s (UseOf (keys c.args.names.now) ∷ ps) (λ i. Next s ps) Unknown (tok_of c.next.result.0) c.args.rest.now c.next.result.1.now c.next.ensures.starts (use_unknown (keys c.args.names.now) (tok_of c.next.result.0) c.if-not-is_name.ensures c.in-None.ensures) refl)) }
