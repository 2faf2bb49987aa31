use Rattle.std.proofs.Common.{◌∙◌, ◌∷◌, List, ap, length, refl, subst, sym, arith, rules}
use Rattle.contract_grammar.specs.Tokens.{Tok, tokens}
use Rattle.contract_grammar.specs.Names.{with_names}
use Rattle.contract_parse.specs.Reading.{tokens_ahead}
use Rattle.contract_parse.specs.Expecting.{MoreNames, NameLines, NewIn, run}
use Rattle.contract_grammar.specs.Statements.{Repeat, name_line, none, more}
use Rattle.contract_grammar.proofs.Parts.{followed_by}
use Rattle.contract_parse.proofs.LineFacts.{line_absent, line_opens}
use Rattle.contract_parse.proofs.Passing.{stopped_at}
use Rattle.contract_parse.proofs.decls.read_names.Goals as goal

pub returns-in_err-rest-clause-reads : goal.returns-in_err-rest-clause-reads
returns-in_err-rest-clause-reads c = stopped_at _ c.from_residual.result c.from_residual.ensures.1 (λ set s ps.
    let here = with_names set c.loop-after.names.keys s in
    let lines = NameLines c.args.word.now set ∷ ps in
    rw (c.loop-after.invariant.follows set s ps
    ∙ line_opens here c.args.word.now lines (NewIn set ∷ MoreNames set ∷ lines) ps (λ t. refl) (tokens_ahead c.loop-after.ahead) (tokens c.in-Some.after.now) c.in-Some.ensures.found)
    (c.in_err-rest.ensures.reads.follows set s lines))

pub loop-after-preserved : goal.loop-after-preserved
loop-after-preserved c = record {
  follows = λ set s ps.
      let lines = NameLines c.args.word.now set ∷ ps in
      c.loop-after.invariant.follows set s ps
      ∙ line_opens (with_names set c.loop-after.names.keys s) c.args.word.now lines (NewIn set ∷ MoreNames set ∷ lines) ps (λ t. refl) (tokens_ahead c.loop-after.ahead) (tokens c.in-Some.after.now) c.in-Some.ensures.found
      ∙ c.in_ok-rest.ensures.reads.follows set s lines
      ∙ ap (run (with_names set c.read_name_list.new.names.keys s) lines) (sym c.look-ahead.ensures.same);
  spelled = λ after end x.
      let here = subst (λ (ts : List Tok). Repeat (name_line c.args.word.now) c.read_name_list.new.names.keys after ts end) c.look-ahead.ensures.same x in
      c.loop-after.invariant.spelled after end (more (followed_by (tokens c.in-Some.after.now) c.in-Some.ensures.found c.in_ok-rest.ensures.reads.spelled) here);
  few = omega (arith, c.in_ok-rest.ensures.few, ap length c.in-Some.ensures.after, c.look-ahead.ensures.within, c.loop-after.invariant.few);
}

pub returns-clause-reads : goal.returns-clause-reads
returns-clause-reads c = record {
  follows = λ set s ps.
      let lines = NameLines c.args.word.now set ∷ ps in
      c.loop-after.invariant.follows set s ps
      ∙ line_absent (with_names set c.loop-after.names.keys s) c.args.word.now lines (NewIn set ∷ MoreNames set ∷ lines) ps (λ t. refl) (tokens_ahead c.loop-after.ahead) c.in_default.ensures.lacks;
  spelled = c.loop-after.invariant.spelled c.loop-after.names.keys (tokens_ahead c.loop-after.ahead) none;
  shorter = search rules;
}
