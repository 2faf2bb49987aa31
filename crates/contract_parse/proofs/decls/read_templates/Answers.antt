use Rattle.std.proofs.Common.{◌∙◌, ◌∷◌, List, ap, length, refl, subst, sym, arith, rules}
use Rattle.std.specs.Prelude.{codes}
use Rattle.indexmap.specs.IndexMap.{keys}
use Rattle.contract_grammar.specs.Tokens.{Tok, tokens}
use Rattle.contract_grammar.specs.Names.{with_names}
use Rattle.contract_parse.specs.Reading.{tokens_ahead}
use Rattle.contract_parse.specs.Expecting.{TemplateLines, run, template_expected}
use Rattle.contract_grammar.specs.Statements.{Entry, Repeat, none, more, template_line}
use Rattle.contract_grammar.specs.declared.names.NameSet.TheVariants.{Template}
use Rattle.contract_parse.proofs.LineFacts.{line_absent, line_opens}
use Rattle.contract_parse.proofs.Passing.{stopped_at}
use Rattle.contract_parse.proofs.decls.read_templates.Goals as goal

pub returns-in_err-rest-clause-reads : goal.returns-in_err-rest-clause-reads
returns-in_err-rest-clause-reads c = stopped_at _ c.from_residual.result c.from_residual.ensures.1 (λ s ps.
    let here = with_names Template (keys c.loop-after.templates) s in
    rw (c.loop-after.invariant.follows s ps
    ∙ line_opens here (codes "template") (TemplateLines ∷ ps) (template_expected (TemplateLines ∷ ps)) ps (λ t. refl) (tokens_ahead c.loop-after.ahead) (tokens c.in-Some.after.now) c.in-Some.ensures.found)
    (c.in_err-rest.ensures.reads.follows s (TemplateLines ∷ ps)))

pub loop-after-preserved : goal.loop-after-preserved
loop-after-preserved c = record {
  follows = λ s ps.
      c.loop-after.invariant.follows s ps
      ∙ line_opens (with_names Template (keys c.loop-after.templates) s) (codes "template") (TemplateLines ∷ ps) (template_expected (TemplateLines ∷ ps)) ps (λ t. refl) (tokens_ahead c.loop-after.ahead) (tokens c.in-Some.after.now) c.in-Some.ensures.found
      ∙ c.in_ok-rest.ensures.reads.follows s (TemplateLines ∷ ps)
      ∙ ap (run (with_names Template (keys c.read_template.new.templates) s) (TemplateLines ∷ ps)) (sym c.look-ahead.ensures.same);
  spelled = λ after end x.
      let here = subst (λ (ts : List Tok). Repeat (Entry template_line) c.read_template.new.templates.entries after ts end) c.look-ahead.ensures.same x in
      c.loop-after.invariant.spelled after end (more (c.in_ok-rest.ensures.reads.spelled (tokens_ahead c.loop-after.ahead) c.in-Some.ensures.found) here);
  few = omega (arith, c.in_ok-rest.ensures.few, ap length c.in-Some.ensures.after, c.look-ahead.ensures.within, c.loop-after.invariant.few);
  limits = c.in_ok-rest.ensures.limits;
}

pub returns-clause-reads : goal.returns-clause-reads
returns-clause-reads c = record {
  follows = λ s ps.
      c.loop-after.invariant.follows s ps
      ∙ line_absent (with_names Template (keys c.loop-after.templates) s) (codes "template") (TemplateLines ∷ ps) (template_expected (TemplateLines ∷ ps)) ps (λ t. refl) (tokens_ahead c.loop-after.ahead) c.in_default.ensures.lacks;
  spelled = c.loop-after.invariant.spelled c.loop-after.templates.entries (tokens_ahead c.loop-after.ahead) none;
  shorter = search rules;
}
