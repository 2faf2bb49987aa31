use Rattle.std.proofs.Common.{◌∙◌, ◌∷◌, List, ap, length, subst, sym, arith, rules}
use Rattle.indexmap.specs.IndexMap.{keys}
use Rattle.contract_grammar.specs.Tokens.{Tok, tokens}
use Rattle.contract_grammar.specs.Names.{with_names}
use Rattle.contract_parse.specs.Reading.{tokens_ahead}
use Rattle.contract_parse.specs.Expecting.{LabelLines, run}
use Rattle.contract_grammar.specs.Statements.{Entry, Repeat, label_line, none, more}
use Rattle.contract_grammar.specs.declared.names.NameSet.TheVariants.{Label as LabelSet}
use Rattle.contract_parse.proofs.LineFacts.{flag_opens, labels_absent, number_opens}
use Rattle.contract_parse.proofs.Passing.{stopped_at}
use Rattle.contract_parse.proofs.labels.read_labels.Goals as goal

pub returns-in_err-rest-clause-reads : goal.returns-in_err-rest-clause-reads
returns-in_err-rest-clause-reads c = stopped_at _ c.from_residual.result c.from_residual.ensures.1 (λ s ps.
    let here = with_names LabelSet (keys c.loop-after.labels) s in
    rw (c.loop-after.invariant.follows s ps ∙ number_opens here ps (tokens_ahead c.loop-after.ahead) (tokens c.in-Some.after.now) c.in-Some.ensures.found)
    (c.in_err-rest.ensures.reads.follows s (LabelLines ∷ ps)))

pub loop-after-preserved-in-Some : goal.loop-after-preserved-in-Some
loop-after-preserved-in-Some c = record {
  follows = λ s ps.
      c.loop-after.invariant.follows s ps
      ∙ number_opens (with_names LabelSet (keys c.loop-after.labels) s) ps (tokens_ahead c.loop-after.ahead) (tokens c.in-Some.after.now) c.in-Some.ensures.found
      ∙ c.in_ok-rest.ensures.reads.follows s (LabelLines ∷ ps)
      ∙ ap (run (with_names LabelSet (keys c.read_number_label.new.labels) s) (LabelLines ∷ ps)) (sym c.look-ahead.ensures.same);
  spelled = λ after end x.
      let here = subst (λ (ts : List Tok). Repeat (Entry label_line) c.read_number_label.new.labels.entries after ts end) c.look-ahead.ensures.same x in
      c.loop-after.invariant.spelled after end (more (c.in_ok-rest.ensures.reads.spelled (tokens_ahead c.loop-after.ahead) c.in-Some.ensures.found) here);
  few = omega (arith, c.in_ok-rest.ensures.few, ap length c.in-Some.ensures.after, c.look-ahead.ensures.within, c.loop-after.invariant.few);
  limits = c.in_ok-rest.ensures.limits;
}

pub returns-in_err-rest-2-clause-reads : goal.returns-in_err-rest-2-clause-reads
returns-in_err-rest-2-clause-reads c = stopped_at _ c.from_residual-in_err-rest-2.result c.from_residual-in_err-rest-2.ensures.1 (λ s ps.
    let here = with_names LabelSet (keys c.loop-after.labels) s in
    rw (c.loop-after.invariant.follows s ps ∙ flag_opens here ps (tokens_ahead c.loop-after.ahead) (tokens c.in-Some-after_word.after.now) c.in_default.ensures.lacks c.in-Some-after_word.ensures.found)
    (c.in_err-rest-2.ensures.reads.follows s (LabelLines ∷ ps)))

pub loop-after-preserved : goal.loop-after-preserved
loop-after-preserved c = record {
  follows = λ s ps.
      c.loop-after.invariant.follows s ps
      ∙ flag_opens (with_names LabelSet (keys c.loop-after.labels) s) ps (tokens_ahead c.loop-after.ahead) (tokens c.in-Some-after_word.after.now) c.in_default.ensures.lacks c.in-Some-after_word.ensures.found
      ∙ c.in_ok-rest-2.ensures.reads.follows s (LabelLines ∷ ps)
      ∙ ap (run (with_names LabelSet (keys c.read_flag.new.labels) s) (LabelLines ∷ ps)) (sym c.look-ahead-in-Some-after_word.ensures.same);
  spelled = λ after end x.
      let here = subst (λ (ts : List Tok). Repeat (Entry label_line) c.read_flag.new.labels.entries after ts end) c.look-ahead-in-Some-after_word.ensures.same x in
      c.loop-after.invariant.spelled after end (more (c.in_ok-rest-2.ensures.reads.spelled (tokens_ahead c.loop-after.ahead) c.in-Some-after_word.ensures.found) here);
  few = omega (arith, c.in_ok-rest-2.ensures.few, ap length c.in-Some-after_word.ensures.after, c.look-ahead-in-Some-after_word.ensures.within, c.loop-after.invariant.few);
  limits = c.in_ok-rest-2.ensures.limits;
}

pub returns-in_default-after_word-clause-reads : goal.returns-in_default-after_word-clause-reads
returns-in_default-after_word-clause-reads c = record {
  follows = λ s ps. c.loop-after.invariant.follows s ps ∙ labels_absent (with_names LabelSet (keys c.loop-after.labels) s) ps (tokens_ahead c.loop-after.ahead) c.in_default.ensures.lacks c.in_default-after_word.ensures.lacks;
  spelled = c.loop-after.invariant.spelled c.loop-after.labels.entries (tokens_ahead c.loop-after.ahead) none;
  shorter = search rules;
}
