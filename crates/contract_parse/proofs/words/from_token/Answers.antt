use Rattle.contract_parse.proofs.WordsAtOnce.{tokens_behind_gap}
use Rattle.contract_parse.proofs.words.from_token.Goals as goal

pub returns-clause-same : goal.returns-clause-same
returns-clause-same c = rw c.after_gap.ensures.rest (tokens_behind_gap c.args.rest.now)
