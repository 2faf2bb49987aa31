use Rattle.contract_grammar.specs.Tokens.{tokens}
use Rattle.contract_parse.proofs.LinesTaken.{portfolio_taken}
use Rattle.contract_parse.proofs.laws.text_is_taken.Goals as goal

pub returns : goal.returns
returns c = λ bytes b text. portfolio_taken b (tokens bytes) text.spelled
