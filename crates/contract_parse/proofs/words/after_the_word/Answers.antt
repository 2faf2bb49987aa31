use Rattle.std.proofs.Common.{rules}
use Rattle.contract_parse.proofs.WordsAtOnce.{word_at_once}
use Rattle.contract_parse.proofs.words.after_the_word.Goals as goal

pub returns-then-not-is_word_byte-clause-found : goal.returns-then-not-is_word_byte-clause-found
returns-then-not-is_word_byte-clause-found c =
    word_at_once c.args.start.now c.args.word.now c.split_at.result.0.now c.split_at.result.1.now c.requires c.split_at.ensures.front c.split_at.ensures.back c.if-are_same.ensures (search rules) (search rules)
