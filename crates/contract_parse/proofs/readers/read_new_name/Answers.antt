use Rattle.std.proofs.Common.{◌∙◌, Ok, refl, ap, rules}
use Rattle.std.specs.Str.{bytes_eq}
use Rattle.std.proofs.lemmas.Map.Made.{is_some-lookup}
use Rattle.contract_grammar.specs.Judgements.{new_at}
use Rattle.contract_parse.specs.Reading.{tok_of}
use Rattle.contract_parse.proofs.Passing.{stopped}
use Rattle.contract_parse.proofs.Steps.{new_passes, new_refuses, spells}
use Rattle.contract_grammar.proofs.NameFacts.{new_fresh, new_none, new_twice}
use Rattle.indexmap.specs.IndexMap.{keys}
use Rattle.contract_grammar.specs.declared.faults.TextKind.TheVariants.{Syntax, Twice}
use Rattle.contract_grammar.specs.Words.{Bytes}
use Rattle.contract_parse.proofs.readers.read_new_name.Goals as goal

pub returns-then-not-is_name-clause-reads : goal.returns-then-not-is_name-clause-reads
returns-then-not-is_name-clause-reads g c = stopped (λ set s ps. rw c.refuse.ensures (new_refuses set (keys c.args.names.now) s ps (tok_of c.next.result.0) c.args.rest.now c.next.result.1.now c.next.ensures.starts Syntax (new_none (keys c.args.names.now) (tok_of c.next.result.0) c.if-not-is_name.ensures)))

pub returns-then-contains_key-clause-reads : goal.returns-then-contains_key-clause-reads
returns-then-contains_key-clause-reads g c = stopped (λ set s ps. rw c.refuse-then-contains_key.ensures (new_refuses set (keys c.args.names.now) s ps (tok_of c.next.result.0) c.args.rest.now c.next.result.1.now c.next.ensures.starts Twice (new_twice (keys c.args.names.now) (tok_of c.next.result.0) c.if-not-is_name.ensures (c.if-contains_key.ensures ∙ is_some-lookup (bytes_eq c.next.result.0.text.now) c.args.names.now.entries))))

pub returns-clause-reads : goal.returns-clause-reads
returns-clause-reads g c = record {
  follows = λ set s ps. new_passes set (keys c.args.names.now) s ps (tok_of c.next.result.0) c.args.rest.now c.next.result.1.now c.next.ensures.starts c.in_ok-name.name (ap (λ (n : Bytes). Ok n) c.in_ok-name.ensures ∙ new_fresh (keys c.args.names.now) (tok_of c.next.result.0) c.if-not-is_name.ensures (c.if-contains_key.ensures ∙ is_some-lookup (bytes_eq c.next.result.0.text.now) c.args.names.now.entries));
  spelled = spells (new_at (keys c.args.names.now)) (λ text left. (refl, refl)) c.in_ok-name.name (tok_of c.next.result.0) c.args.rest.now c.next.result.1.now c.next.ensures.starts (ap (λ (n : Bytes). Ok n) c.in_ok-name.ensures ∙ new_fresh (keys c.args.names.now) (tok_of c.next.result.0) c.if-not-is_name.ensures (c.if-contains_key.ensures ∙ is_some-lookup (bytes_eq c.next.result.0.text.now) c.args.names.now.entries));
  shorter = search rules;
}
