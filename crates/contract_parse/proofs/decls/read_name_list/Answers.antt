use Rattle.std.proofs.Common.{◌∙◌, ◌∷◌, Bool, ap, arith, rules}
use Rattle.contract_grammar.specs.Tokens.{tokens}
use Rattle.contract_grammar.specs.Names.{with_names}
use Rattle.contract_parse.specs.Expecting.{list_expected, MoreNames, run}
use Rattle.contract_grammar.specs.Statements.{none, more}
use Rattle.contract_grammar.proofs.Parts.{followed_by}
use Rattle.contract_parse.proofs.LineFacts.{is_comma, is_semicolon}
use Rattle.contract_parse.proofs.Passing.{stopped_at}
use Rattle.contract_parse.proofs.decls.read_name_list.Goals as goal

pub returns-in_err-rest-clause-reads : goal.returns-in_err-rest-clause-reads
returns-in_err-rest-clause-reads c = stopped_at _ c.from_residual.result c.from_residual.ensures.1 (λ set s ps. c.in_err-rest.ensures.reads.follows set s (MoreNames set ∷ ps))

pub loop-comma-init : goal.loop-comma-init
loop-comma-init c = record {
  follows = λ set s ps. c.in_ok-rest.ensures.reads.follows set s (MoreNames set ∷ ps);
  spelled = λ after end x. record { first = c.declare.new.names.keys; spelled = followed_by (tokens c.in_ok-rest.rest.now) c.in_ok-rest.ensures.reads.spelled x };
  few = c.in_ok-rest.ensures.few;
  shorter = c.in_ok-rest.ensures.shorter;
}

pub loop-comma-preserved : goal.loop-comma-preserved
loop-comma-preserved c = record {
  follows = λ set s ps.
      let here = with_names set c.loop-comma.names.keys s in
      c.loop-comma.invariant.follows set s ps
      ∙ c.in_ok-comma.ensures.reads.follows set here ps
      ∙ ap (λ (comma : Bool). run here (list_expected set comma ps) (tokens c.in_ok-comma.after.now)) c.if-not-comma.false
      ∙ c.in_ok-rest-2.ensures.reads.follows set s (MoreNames set ∷ ps);
  spelled = λ after end x.
      let comma = is_comma c.in_ok-comma.comma (tokens c.loop-comma.rest.now) (tokens c.in_ok-comma.after.now) c.if-not-comma.false c.in_ok-comma.ensures.reads.spelled in
      c.loop-comma.invariant.spelled after end (followed_by x.between (more (followed_by (tokens c.in_ok-comma.after.now) comma c.in_ok-rest-2.ensures.reads.spelled) x.one) x.two);
  few = omega (arith, c.in_ok-rest-2.ensures.few, c.in_ok-comma.ensures.shorter);
  shorter = omega (arith, c.in_ok-rest-2.ensures.shorter, c.in_ok-comma.ensures.shorter);
}

pub returns-then-not-comma-clause-reads : goal.returns-then-not-comma-clause-reads
returns-then-not-comma-clause-reads c = record {
  follows = search rules;
  spelled =
      c.loop-comma.invariant.spelled c.loop-comma.names.keys (tokens c.in_ok-comma.after.now)
      (followed_by (tokens c.loop-comma.rest.now) none (is_semicolon c.in_ok-comma.comma (tokens c.loop-comma.rest.now) (tokens c.in_ok-comma.after.now) c.if-not-comma.true c.in_ok-comma.ensures.reads.spelled));
  shorter = search rules;
}
