use Rattle.std.proofs.Common.{refl, sym}
use Rattle.contract_grammar.specs.Words.{is_the_mark}
use Rattle.contract_parse.specs.Reading.{tok_of, tokens_after}
use Rattle.contract_parse.proofs.Steps.{so_spells}
use Rattle.contract_parse.proofs.readers.after_mark.Goals as goal

pub returns-then-is_the_mark-clause-found : goal.returns-then-is_the_mark-clause-found
returns-then-is_the_mark-clause-found c = so_spells (is_the_mark c.args.wanted.now) (λ text left. (refl, refl)) (tok_of c.next.result.0) c.args.rest.now c.next.result.1.now c.next.ensures.starts c.if-is_the_mark.ensures

pub returns-else-is_the_mark-clause-lacks : goal.returns-else-is_the_mark-clause-lacks
returns-else-is_the_mark-clause-lacks c = record { first = tok_of c.next.result.0; after = tokens_after c.next.result.0.kind c.next.result.1.now; is = c.next.ensures.starts; other = sym c.if-is_the_mark.ensures }
