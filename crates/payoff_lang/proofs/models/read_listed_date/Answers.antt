use Rattle.std.proofs.Common.{[], arith, rules, w32}
use Rattle.std.specs.Prelude.{FitsSigned}
use Rattle.std.proofs.lemmas.Int.{ints, to_z-of_z}
use Rattle.contract_grammar.specs.Tokens.{tokens}
use Rattle.contract_parse.specs.Reading.{declared_in}
use Rattle.payoff_lang.proofs.DatedSpelled.{put_keeps, put_last}
use Rattle.payoff_lang.proofs.models.read_listed_date.Goals as goal

pub returns-clause-reads : goal.returns-clause-reads
returns-clause-reads c = record {
  follows = search rules;
  spelled =
      let small : FitsSigned w32 c.in_ok-index.index = omega (arith, ints, c.in_ok-index.ensures.index, c.in_ok-index.ensures.small) in
      rw (to_z-of_z w32 c.in_ok-index.index small, c.in_ok-index.ensures.index, c.in_ok-index.ensures.dates) (put_last c.args.dates.now.items c.in_ok-on.on (declared_in c.args.decls.now []) (tokens c.args.rest.now) (tokens c.in_ok-on.rest.now) c.in_ok-on.ensures.reads.spelled);
  shorter = search rules;
}

pub returns-clause-kept : goal.returns-clause-kept
returns-clause-kept c = rw c.in_ok-index.ensures.dates (put_keeps c.args.dates.now.items c.in_ok-on.on)
