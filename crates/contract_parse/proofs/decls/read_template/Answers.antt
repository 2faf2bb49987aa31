use Rattle.std.proofs.Common.{◌∙◌, ◌∷◌, ◌++◌, [], List, ap, arith, rules}
use Rattle.std.proofs.lemmas.Bool.Decides.{nat_tests}
use Rattle.std.specs.Prelude.{codes, nat_le}
use Rattle.std.specs.Map.{keys_of}
use Rattle.contract_grammar.specs.Tokens.{tokens}
use Rattle.contract_grammar.specs.Words.{Bytes}
use Rattle.contract_grammar.specs.Names.{with_names}
use Rattle.contract_parse.specs.Expecting.{IntegerAt, TheMark, run}
use Rattle.contract_grammar.specs.declared.names.NameSet.TheVariants.{Template}
use Rattle.contract_grammar.proofs.EntryFacts.{all_inserted}
use Rattle.contract_grammar.proofs.Parts.{followed_by}
use Rattle.contract_parse.proofs.LineFacts.{inserted_entry, inserted_names}
use Rattle.contract_parse.proofs.Passing.{stopped_at}
use Rattle.contract_parse.proofs.decls.read_template.Goals as goal

pub returns-clause-limits : goal.returns-clause-limits
returns-clause-limits c = rw c.in_ok-insert.ensures.entries (all_inserted (λ n. nat_le n 100_000) c.args.templates.now.entries c.in_ok-name.name c.in_ok-days.days c.requires (grind (arith, nat_tests)))

pub returns-in_err-name-clause-reads : goal.returns-in_err-name-clause-reads
returns-in_err-name-clause-reads c = stopped_at _ c.from_residual.result c.from_residual.ensures.1 (λ s ps. c.in_err-name.ensures.reads.follows Template s (TheMark (codes "=") ∷ IntegerAt 100_000 ∷ TheMark (codes ";") ∷ ps))

pub returns-in_err-days-clause-reads : goal.returns-in_err-days-clause-reads
returns-in_err-days-clause-reads c = stopped_at _ c.from_residual-in_err-days.result c.from_residual-in_err-days.ensures.1 (λ s ps. rw (c.in_ok-name.ensures.reads.follows Template s (TheMark (codes "=") ∷ IntegerAt 100_000 ∷ TheMark (codes ";") ∷ ps)) (c.in_err-days.ensures.reads.follows (with_names Template (keys_of c.args.templates.now.entries ++ c.in_ok-name.name ∷ []) s) ps))

pub returns-clause-reads : goal.returns-clause-reads
returns-clause-reads c = record {
  follows = λ s ps.
      let added = with_names Template (keys_of c.args.templates.now.entries ++ c.in_ok-name.name ∷ []) s in
      c.in_ok-name.ensures.reads.follows Template s (TheMark (codes "=") ∷ IntegerAt 100_000 ∷ TheMark (codes ";") ∷ ps)
      ∙ c.in_ok-days.ensures.reads.follows added ps
      ∙ ap (λ (names : List Bytes). run (with_names Template names s) ps (tokens c.in_ok-days.rest.now))
      (inserted_names c.args.templates.now.entries c.insert.new.self.entries c.in_ok-name.name c.in_ok-days.days (tokens c.args.rest.now) (tokens c.in_ok-name.rest.now) c.in_ok-insert.ensures.entries c.in_ok-name.ensures.reads.spelled);
  spelled = λ ts w. record {
    name = c.in_ok-name.name;
    value = c.in_ok-days.days;
    is = inserted_entry c.args.templates.now.entries c.insert.new.self.entries c.in_ok-name.name c.in_ok-days.days (tokens c.args.rest.now) (tokens c.in_ok-name.rest.now) c.in_ok-insert.ensures.entries c.in_ok-name.ensures.reads.spelled;
    spelled = followed_by (tokens c.args.rest.now) w (followed_by (tokens c.in_ok-name.rest.now) c.in_ok-name.ensures.reads.spelled c.in_ok-days.ensures.reads.spelled);
  };
  shorter = search rules;
}
