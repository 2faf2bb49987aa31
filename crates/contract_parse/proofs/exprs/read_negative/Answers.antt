use Rattle.std.proofs.Common.{true, rules}
use Rattle.contract_grammar.specs.Tokens.{tokens}
use Rattle.contract_grammar.proofs.Parts.{followed_by}
use Rattle.contract_parse.proofs.exprs.read_negative.Goals as goal

pub returns-clause-reads : goal.returns-clause-reads
returns-clause-reads c = record {
  follows = search rules;
  spelled = (c.in_ok-number.number, c.literal.ensures, λ ts minus. record { negative = true; spelled = followed_by (tokens c.args.rest.now) minus c.in_ok-number.ensures.reads.spelled });
  shorter = search rules;
}
