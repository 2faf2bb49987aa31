use Rattle.std.proofs.Common.{◌∙◌, ◌∷◌, ◌++◌, [], List, refl, ap, rules}
use Rattle.std.specs.Prelude.{codes}
use Rattle.std.specs.Map.{keys_of}
use Rattle.contract_grammar.specs.Tokens.{tokens}
use Rattle.contract_grammar.specs.Words.{Bytes}
use Rattle.contract_grammar.specs.Names.{with_names}
use Rattle.contract_parse.specs.Expecting.{TheMark, run}
use Rattle.contract_grammar.specs.declared.names.NameSet.TheVariants.{Label as LabelSet}
use Rattle.contract_grammar.proofs.Parts.{followed_by}
use Rattle.contract_parse.proofs.LineFacts.{inserted_entry, inserted_names}
use Rattle.term_model.specs.Limits.{is_label}
use Rattle.term_model.specs.declared.label.Label.TheVariants.{Flag}
use Rattle.contract_grammar.proofs.EntryFacts.{all_inserted}
use Rattle.contract_parse.proofs.Passing.{stopped_at}
use Rattle.contract_parse.proofs.labels.read_flag.Goals as goal

pub returns-clause-limits : goal.returns-clause-limits
returns-clause-limits c = rw c.in_ok-insert.ensures.entries (all_inserted is_label c.args.labels.now.entries c.in_ok-name.name Flag c.requires refl)

pub returns-in_err-name-clause-reads : goal.returns-in_err-name-clause-reads
returns-in_err-name-clause-reads c = stopped_at _ c.from_residual.result c.from_residual.ensures.1 (λ s ps. c.in_err-name.ensures.reads.follows LabelSet s (TheMark (codes ";") ∷ ps))

pub returns-in_err-rest-clause-reads : goal.returns-in_err-rest-clause-reads
returns-in_err-rest-clause-reads c = stopped_at _ c.from_residual-in_err-rest.result c.from_residual-in_err-rest.ensures.1 (λ s ps. rw (c.in_ok-name.ensures.reads.follows LabelSet s (TheMark (codes ";") ∷ ps)) (c.in_err-rest.ensures.reads.follows (with_names LabelSet (keys_of c.args.labels.now.entries ++ c.in_ok-name.name ∷ []) s) ps))

pub returns-clause-reads : goal.returns-clause-reads
returns-clause-reads c = record {
  follows = λ s ps.
      c.in_ok-name.ensures.reads.follows LabelSet s (TheMark (codes ";") ∷ ps)
      ∙ c.in_ok-rest.ensures.reads.follows (with_names LabelSet (keys_of c.args.labels.now.entries ++ c.in_ok-name.name ∷ []) s) ps
      ∙ ap (λ (names : List Bytes). run (with_names LabelSet names s) ps (tokens c.in_ok-rest.rest.now))
      (inserted_names c.args.labels.now.entries c.insert.new.self.entries c.in_ok-name.name Flag (tokens c.args.rest.now) (tokens c.in_ok-name.rest.now) c.in_ok-insert.ensures.entries c.in_ok-name.ensures.reads.spelled);
  spelled = λ ts w. record {
    name = c.in_ok-name.name;
    value = Flag;
    is = inserted_entry c.args.labels.now.entries c.insert.new.self.entries c.in_ok-name.name Flag (tokens c.args.rest.now) (tokens c.in_ok-name.rest.now) c.in_ok-insert.ensures.entries c.in_ok-name.ensures.reads.spelled;
    spelled = followed_by (tokens c.args.rest.now) w (followed_by (tokens c.in_ok-name.rest.now) c.in_ok-name.ensures.reads.spelled c.in_ok-rest.ensures.reads.spelled);
  };
  shorter = search rules;
}
