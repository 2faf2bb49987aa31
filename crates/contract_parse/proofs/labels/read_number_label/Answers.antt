use Rattle.std.proofs.Common.{◌∙◌, ◌∷◌, ◌++◌, [], List, ap, rules}
use Rattle.std.specs.Prelude.{codes}
use Rattle.std.specs.Map.{keys_of}
use Rattle.contract_grammar.specs.Tokens.{tokens}
use Rattle.contract_grammar.specs.Words.{Bytes}
use Rattle.contract_grammar.specs.Names.{with_names}
use Rattle.contract_parse.specs.Expecting.{ScaleAt, TheMark, run}
use Rattle.contract_grammar.specs.declared.names.NameSet.TheVariants.{Label as LabelSet}
use Rattle.contract_parse.proofs.LineFacts.{inserted_entry, inserted_names, number_spelled}
use Rattle.term_model.specs.Limits.{is_label}
use Rattle.contract_grammar.proofs.EntryFacts.{all_inserted}
use Rattle.contract_parse.proofs.Passing.{stopped_at}
use Rattle.contract_parse.proofs.labels.read_number_label.Goals as goal

pub returns-clause-limits : goal.returns-clause-limits
returns-clause-limits c = rw c.in_ok-insert.ensures.entries (all_inserted is_label c.args.labels.now.entries c.in_ok-name.name c.in_ok-label.label c.requires c.in_ok-label.ensures.limits)

pub returns-in_err-name-clause-reads : goal.returns-in_err-name-clause-reads
returns-in_err-name-clause-reads c = stopped_at _ c.from_residual.result c.from_residual.ensures.1 (λ s ps. c.in_err-name.ensures.reads.follows LabelSet s (TheMark (codes ":") ∷ ScaleAt ∷ TheMark (codes ";") ∷ ps))

pub returns-in_err-label-clause-reads : goal.returns-in_err-label-clause-reads
returns-in_err-label-clause-reads c = stopped_at _ c.from_residual-in_err-label.result c.from_residual-in_err-label.ensures.1 (λ s ps. rw (c.in_ok-name.ensures.reads.follows LabelSet s (TheMark (codes ":") ∷ ScaleAt ∷ TheMark (codes ";") ∷ ps)) (c.in_err-label.ensures.reads.follows (with_names LabelSet (keys_of c.args.labels.now.entries ++ c.in_ok-name.name ∷ []) s) (TheMark (codes ";") ∷ ps)))

pub returns-in_err-rest-clause-reads : goal.returns-in_err-rest-clause-reads
returns-in_err-rest-clause-reads c = stopped_at _ c.from_residual-in_err-rest.result c.from_residual-in_err-rest.ensures.1 (λ s ps.
    let added = with_names LabelSet (keys_of c.args.labels.now.entries ++ c.in_ok-name.name ∷ []) s in
    rw (c.in_ok-name.ensures.reads.follows LabelSet s (TheMark (codes ":") ∷ ScaleAt ∷ TheMark (codes ";") ∷ ps) ∙ c.in_ok-label.ensures.reads.follows added (TheMark (codes ";") ∷ ps))
    (c.in_err-rest.ensures.reads.follows added ps))

pub returns-clause-reads : goal.returns-clause-reads
returns-clause-reads c = record {
  follows = λ s ps.
      let added = with_names LabelSet (keys_of c.args.labels.now.entries ++ c.in_ok-name.name ∷ []) s in
      c.in_ok-name.ensures.reads.follows LabelSet s (TheMark (codes ":") ∷ ScaleAt ∷ TheMark (codes ";") ∷ ps)
      ∙ c.in_ok-label.ensures.reads.follows added (TheMark (codes ";") ∷ ps)
      ∙ c.in_ok-rest.ensures.reads.follows added ps
      ∙ ap (λ (names : List Bytes). run (with_names LabelSet names s) ps (tokens c.in_ok-rest.rest.now))
      (inserted_names c.args.labels.now.entries c.insert.new.self.entries c.in_ok-name.name c.in_ok-label.label (tokens c.args.rest.now) (tokens c.in_ok-name.rest.now) c.in_ok-insert.ensures.entries c.in_ok-name.ensures.reads.spelled);
  spelled = λ ts w. record {
    name = c.in_ok-name.name;
    value = c.in_ok-label.label;
    is = inserted_entry c.args.labels.now.entries c.insert.new.self.entries c.in_ok-name.name c.in_ok-label.label (tokens c.args.rest.now) (tokens c.in_ok-name.rest.now) c.in_ok-insert.ensures.entries c.in_ok-name.ensures.reads.spelled;
    spelled = number_spelled c.args.labels.now.entries c.in_ok-name.name c.in_ok-label.label ts (tokens c.args.rest.now) (tokens c.in_ok-name.rest.now) (tokens c.in_ok-label.rest.now) (tokens c.in_ok-rest.rest.now) w c.in_ok-name.ensures.reads.spelled c.in_ok-label.ensures.reads.spelled c.in_ok-rest.ensures.reads.spelled;
  };
  shorter = search rules;
}
