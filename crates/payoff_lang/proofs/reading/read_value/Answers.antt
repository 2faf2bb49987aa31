use Rattle.std.proofs.Common.{[], ◌∙◌, ap, arith, sym, subst, rules}
use Rattle.term_model.specs.Sizes.{height}
use Rattle.term_model.specs.Terms.{expression}
use Rattle.contract_grammar.specs.Tokens.{tokens}
use Rattle.contract_parse.specs.Frames.{names_at}
use Rattle.contract_parse.specs.Reading.{declared_in}
use Rattle.payoff_terms.specs.Code.{ValueExpression}
use Rattle.payoff_terms.specs.Dating.{undated}
use Rattle.payoff_lang.specs.CodeSpelling.{value_part}
use Rattle.payoff_lang.proofs.DatedSpelled.{dates_listed, height_dated, listed_spelled}
use Rattle.payoff_lang.proofs.reading.read_value.Goals as goal

pub dated-requires : goal.dated-requires
dated-requires c = dates_listed _ (declared_in c.args.frame.now.decls.now []) (names_at c.args.frame.now) (expression c.in_ok-e.e) (tokens c.args.rest.now) (tokens c.in_ok-e.after.now) c.in_ok-e.ensures.reads.spelled

pub returns-clause-reads : goal.returns-clause-reads
returns-clause-reads c = record {
  follows = search rules;
  spelled =
      let s = declared_in c.args.frame.now.decls.now [] in
      subst (λ (v : ValueExpression). value_part s (names_at c.args.frame.now) v (tokens c.args.rest.now) (tokens c.in_ok-e.after.now)) (sym c.in_ok-v.ensures)
      (listed_spelled _ s (names_at c.args.frame.now) (expression c.in_ok-e.e) (tokens c.args.rest.now) (tokens c.in_ok-e.after.now) c.in_ok-e.ensures.reads.spelled);
  shorter = search rules;
}

pub returns-clause-high : goal.returns-clause-high
returns-clause-high c =
    let same = ap (λ (v : ValueExpression). height (undated v)) c.in_ok-v.ensures ∙ height_dated _ (expression c.in_ok-e.e) in
    omega (arith, c.in_ok-e.ensures.high, same)
