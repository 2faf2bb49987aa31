use Rattle.std.proofs.Common.{◌∙◌, List, Ok, refl, sym, ap, rules}
use Rattle.contract_grammar.specs.Judgements.{new_at}
use Rattle.contract_parse.specs.Expecting.{run}
use Rattle.contract_parse.specs.Reading.{tok_of}
use Rattle.contract_parse.proofs.NextFacts.{inserted_again}
use Rattle.contract_parse.proofs.Passing.{stopped}
use Rattle.contract_parse.proofs.Steps.{new_passes, new_refuses, spells}
use Rattle.contract_grammar.proofs.NameFacts.{inserted, is_new, is_old, new_fresh, new_none, new_twice}
use Rattle.contract_grammar.specs.declared.faults.TextKind.TheVariants.{Syntax, Twice}
use Rattle.contract_grammar.specs.Names.{is_declared, with_names}
use Rattle.contract_grammar.specs.Words.{Bytes}
use Rattle.contract_grammar.specs.Tokens.{tokens}
use Rattle.contract_parse.proofs.readers.declare.Goals as goal

pub returns-then-not-is_name-clause-reads : goal.returns-then-not-is_name-clause-reads
returns-then-not-is_name-clause-reads c = stopped (λ set s ps. rw c.refuse.ensures (new_refuses set c.args.names.now.keys s ps (tok_of c.next.result.0) c.args.rest.now c.next.result.1.now c.next.ensures.starts Syntax (new_none c.args.names.now.keys (tok_of c.next.result.0) c.if-not-is_name.ensures)))

pub returns-then-branch-clause-reads : goal.returns-then-branch-clause-reads
returns-then-branch-clause-reads c = record {
  follows = λ set s ps. new_passes set c.args.names.now.keys s ps (tok_of c.next.result.0) c.args.rest.now c.next.result.1.now c.next.ensures.starts c.in_ok-name.name (ap (λ (n : Bytes). Ok n) c.in_ok-name.ensures ∙ new_fresh c.args.names.now.keys (tok_of c.next.result.0) c.if-not-is_name.ensures ((is_new (is_declared c.args.names.now.keys c.in_ok-name.name) (sym c.if-branch.true ∙ c.in_ok-insert.ensures.added)) ∙ ap (is_declared c.args.names.now.keys) c.in_ok-name.ensures)) ∙ ap (λ (names : List Bytes). run (with_names set names s) ps (tokens c.next.result.1.now)) (sym (c.in_ok-insert.ensures.keys ∙ inserted c.args.names.now.keys c.in_ok-name.name (is_new (is_declared c.args.names.now.keys c.in_ok-name.name) (sym c.if-branch.true ∙ c.in_ok-insert.ensures.added))));
  spelled = record { name = c.in_ok-name.name; is = (c.in_ok-insert.ensures.keys ∙ inserted c.args.names.now.keys c.in_ok-name.name (is_new (is_declared c.args.names.now.keys c.in_ok-name.name) (sym c.if-branch.true ∙ c.in_ok-insert.ensures.added))); spelled = spells (new_at c.args.names.now.keys) (λ text left. (refl, refl)) c.in_ok-name.name (tok_of c.next.result.0) c.args.rest.now c.next.result.1.now c.next.ensures.starts (ap (λ (n : Bytes). Ok n) c.in_ok-name.ensures ∙ new_fresh c.args.names.now.keys (tok_of c.next.result.0) c.if-not-is_name.ensures ((is_new (is_declared c.args.names.now.keys c.in_ok-name.name) (sym c.if-branch.true ∙ c.in_ok-insert.ensures.added)) ∙ ap (is_declared c.args.names.now.keys) c.in_ok-name.ensures)) };
  shorter = search rules;
}

pub returns-else-branch-clause-reads : goal.returns-else-branch-clause-reads
returns-else-branch-clause-reads c = stopped (λ set s ps. rw c.refuse-else-branch.ensures (new_refuses set c.args.names.now.keys s ps (tok_of c.next.result.0) c.args.rest.now c.next.result.1.now c.next.ensures.starts Twice (new_twice c.args.names.now.keys (tok_of c.next.result.0) c.if-not-is_name.ensures ((is_old (is_declared c.args.names.now.keys c.in_ok-name.name) (sym c.if-branch.false ∙ c.in_ok-insert.ensures.added)) ∙ ap (is_declared c.args.names.now.keys) c.in_ok-name.ensures))))

pub returns-else-branch-clause-kept : goal.returns-else-branch-clause-kept
returns-else-branch-clause-kept c =
    let names = c.args.names.now.keys in
    let present = is_old (is_declared names c.in_ok-name.name) (sym c.if-branch.false ∙ c.in_ok-insert.ensures.added) in
    c.in_ok-insert.ensures.keys ∙ inserted_again names c.in_ok-name.name present
