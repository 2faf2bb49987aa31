use Rattle.std.proofs.Common.{◌∙◌, ◌∷◌, ◌++◌, [], List, ap, ap₂, refl, subst, rules, take}
use Rattle.std.specs.Prelude.{codes}
use Rattle.contract_grammar.specs.Tokens.{tokens}
use Rattle.contract_grammar.specs.Versions.{version_of}
use Rattle.contract_grammar.specs.Words.{Bytes}
use Rattle.contract_grammar.specs.Judgements.{new_at}
use Rattle.contract_grammar.specs.Spelling.{valued}
use Rattle.contract_parse.specs.Expecting.{ContrAt, TheMark}
use Rattle.contract_parse.specs.Reading.{declared_in, tok_of, tokens_after}
use Rattle.contract_grammar.specs.declared.names.NameSet.TheVariants.{Contract}
use Rattle.contract_parse.proofs.NextFacts.{all_before, new_name_is}
use Rattle.contract_grammar.proofs.Parts.{followed_by}
use Rattle.contract_parse.proofs.Passing.{stopped, stopped_at}
use Rattle.contract_parse.proofs.next_contracts.read_named.Goals as goal

pub returns-in_err-rest-clause-reads : goal.returns-in_err-rest-clause-reads
returns-in_err-rest-clause-reads c = stopped_at _ c.from_residual.result c.from_residual.ensures.1 (λ ps. c.in_err-rest.ensures.reads.follows Contract (declared_in c.args.decls.now []) (TheMark (codes "=") ∷ ContrAt (version_of c.args.decls.now.version) 1 [] ∷ TheMark (codes ";") ∷ ps))

pub returns-in-Err-clause-reads : goal.returns-in-Err-clause-reads
returns-in-Err-clause-reads c = stopped (λ ps.
    rw (c.in_ok-rest.ensures.reads.follows Contract (declared_in c.args.decls.now []) (TheMark (codes "=") ∷ ContrAt (version_of c.args.decls.now.version) 1 [] ∷ TheMark (codes ";") ∷ ps))
    (c.in-Err.ensures.reads.follows c.declare.new.names.keys ps))

pub returns-in-Ok-clause-reads : goal.returns-in-Ok-clause-reads
returns-in-Ok-clause-reads c = record {
  follows = λ ps.
      c.in_ok-rest.ensures.reads.follows Contract (declared_in c.args.decls.now []) (TheMark (codes "=") ∷ ContrAt (version_of c.args.decls.now.version) 1 [] ∷ TheMark (codes ";") ∷ ps)
      ∙ c.in-Ok.ensures.reads.follows c.declare.new.names.keys ps;
  spelled =
      let added = c.in_ok-rest.ensures.reads.spelled in
      let before = c.args.names.now.keys in
      let here = tokens c.args.after.now in
      let behind = tokens c.in_ok-rest.rest.now in
      let same = new_name_is before added.name (tok_of c.next.result.0) here (tokens_after c.next.result.0.kind c.next.result.1.now) behind c.next.ensures.starts added.spelled in
      let new = subst (λ (n : Bytes). valued (new_at before) n here behind) same added.spelled in
      let defined = c.in-Ok.ensures.reads.spelled in
      followed_by behind new
      (followed_by defined.between defined.one
      (followed_by defined.two.between defined.two.one
      (followed_by defined.two.between (refl, c.in-Ok.ensures.high) defined.two.two)));
  shorter = search rules;
}

pub returns-in-Ok-clause-added : goal.returns-in-Ok-clause-added
returns-in-Ok-clause-added c =
    let added = c.in_ok-rest.ensures.reads.spelled in
    let before = c.args.names.now.keys in
    let same = new_name_is before added.name (tok_of c.next.result.0) (tokens c.args.after.now) (tokens_after c.next.result.0.kind c.next.result.1.now) (tokens c.in_ok-rest.rest.now) c.next.ensures.starts added.spelled in
    added.is ∙ ap (λ (n : Bytes). before ++ n ∷ []) same

pub returns-in-Err-clause-kept : goal.returns-in-Err-clause-kept
returns-in-Err-clause-kept c =
    let before = c.args.names.now.keys in
    let added = c.in_ok-rest.ensures.reads.spelled in
    c.truncate.ensures.keys ∙ ap₂ (λ n (ns : List Bytes). take n ns) c.len-known.ensures.len added.is ∙ all_before before (added.name ∷ [])
