use Rattle.std.proofs.Common.{rules}
use Rattle.std.proofs.lemmas.Int.{to_z-of_z}
use mir.Syntax.{w128}
use Rattle.contract_grammar.specs.Tokens.{tokens}
use Rattle.contract_parse.proofs.NumberFacts.{fits_wide}
use Rattle.contract_grammar.proofs.Parts.{followed_by}
use Rattle.contract_parse.proofs.labels.read_range.Goals as goal

pub returns-clause-reads : goal.returns-clause-reads
returns-clause-reads c = record {
  follows = search rules;
  spelled =
      let low = to_z-of_z w128 c.in_ok-low.low (fits_wide c.in_ok-low.low c.in_ok-low.ensures.limits) in
      let high = to_z-of_z w128 c.in_ok-high.high (fits_wide c.in_ok-high.high c.in_ok-high.ensures.limits.0) in
      let above = rw low at c.in_ok-high.ensures.reads.spelled in
      rw (low, high)
      (followed_by (tokens c.in_ok-rest.rest.now) c.in_ok-rest.ensures.reads.spelled
      (followed_by (tokens c.in_ok-scale.rest.now) c.in_ok-scale.ensures.reads.spelled
      (followed_by (tokens c.in_ok-rest-2.rest.now) c.in_ok-rest-2.ensures.reads.spelled
      (followed_by (tokens c.in_ok-low.rest.now) c.in_ok-low.ensures.reads.spelled
      (followed_by (tokens c.in_ok-rest-3.rest.now) c.in_ok-rest-3.ensures.reads.spelled above)))));
  shorter = search rules;
}
