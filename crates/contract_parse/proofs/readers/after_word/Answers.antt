use Rattle.std.proofs.Common.{refl, sym}
use Rattle.contract_grammar.specs.Words.{is_the_word}
use Rattle.contract_parse.specs.Reading.{tok_of, tokens_after}
use Rattle.contract_parse.proofs.Steps.{ahead_spells}
use Rattle.contract_parse.proofs.readers.after_word.Goals as goal

pub returns-then-is_the_word-clause-found : goal.returns-then-is_the_word-clause-found
returns-then-is_the_word-clause-found c = ahead_spells (is_the_word c.args.wanted.now) (λ text left. (refl, refl)) (tok_of c.args.ahead.now.token) c.args.ahead.now.after.now c.if-is_the_word.ensures

pub returns-else-is_the_word-clause-lacks : goal.returns-else-is_the_word-clause-lacks
returns-else-is_the_word-clause-lacks c = record { first = tok_of c.args.ahead.now.token; after = tokens_after c.args.ahead.now.token.kind c.args.ahead.now.after.now; is = refl; other = sym c.if-is_the_word.ensures }
