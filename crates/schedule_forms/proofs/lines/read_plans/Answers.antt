use Rattle.std.proofs.Common.{◌∙◌, ◌∷◌, List, ap, arith, length, subst, sym, rules}
use Rattle.indexmap.specs.IndexMap.{keys}
use Rattle.term_model.specs.Declarations.{declarations}
use Rattle.contract_grammar.specs.Tokens.{Tok, tokens}
use Rattle.contract_grammar.specs.Statements.{Entry, Repeat, none, more}
use Rattle.contract_parse.specs.Reading.{tok_of, tokens_after, tokens_ahead}
use Rattle.contract_parse.proofs.Passing.{stopped_at}
use Rattle.schedule_forms.specs.PlanSpelling.{plan_line}
use Rattle.schedule_forms.specs.PlanExpecting.{PlanLines, plan_fault}
use Rattle.schedule_forms.proofs.PlanSteps.{line_absent, line_opens}
use Rattle.schedule_forms.proofs.lines.read_plans.Goals as goal

pub returns-in_err-rest : goal.returns-in_err-rest
returns-in_err-rest c = record {
  reads = stopped_at _ c.from_residual.result c.from_residual.ensures.1 (λ ps.
      let d = declarations c.args.decls.now in
      rw (c.loop-head.invariant.follows ps
      ∙ line_opens (keys c.loop-head.plans) d ps c.in-Some.head (tokens_ahead c.loop-head.ahead) (tokens c.in-Some.after.now) c.in-Some.ensures.found)
      (c.in_err-rest.ensures.reads.follows (PlanLines d ∷ ps)));
}

pub loop-head-preserved : goal.loop-head-preserved
loop-head-preserved c = record {
  follows = λ ps.
      let d = declarations c.args.decls.now in
      c.loop-head.invariant.follows ps
      ∙ line_opens (keys c.loop-head.plans) d ps c.in-Some.head (tokens_ahead c.loop-head.ahead) (tokens c.in-Some.after.now) c.in-Some.ensures.found
      ∙ c.in_ok-rest.ensures.reads.follows (PlanLines d ∷ ps)
      ∙ ap (λ (ts : List Tok). plan_fault (keys c.read_plan_line.new.plans) (PlanLines d ∷ ps) ts) (sym c.look-ahead.ensures.same);
  spelled = λ after end x.
      let here = subst (λ (ts : List Tok). Repeat (Entry (plan_line (declarations c.args.decls.now))) c.read_plan_line.new.plans.entries after ts end) c.look-ahead.ensures.same x in
      c.loop-head.invariant.spelled after end (more (c.in_ok-rest.ensures.reads.spelled (tokens_ahead c.loop-head.ahead) c.in-Some.ensures.found) here);
  shorter = omega (arith, c.in_ok-rest.ensures.shorter, ap length c.in-Some.ensures.after, c.look-ahead.ensures.within, c.loop-head.invariant.shorter);
}

pub returns : goal.returns
returns c = record {
  reads = record {
    follows = λ ps.
        let ahead = c.loop-head.ahead in
        c.loop-head.invariant.follows ps
        ∙ line_absent (keys c.loop-head.plans) (declarations c.args.decls.now) ps (tok_of ahead.token) (tokens_after ahead.token.kind ahead.after.now) c.in_default.ensures.none;
    spelled = c.loop-head.invariant.spelled c.loop-head.plans.entries (tokens_ahead c.loop-head.ahead) none;
    shorter = search rules;
  };
}
