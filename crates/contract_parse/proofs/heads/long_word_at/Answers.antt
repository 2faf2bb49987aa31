use Rattle.std.proofs.Common.{◌≡◌, true, sym, arith}
use Rattle.std.proofs.lemmas.Grind.{common_steps}
use Rattle.std.specs.Prelude.{codes}
use Rattle.contract_grammar.specs.Words.{is_the_word}
use Rattle.contract_parse.specs.Reading.{tok_of}
use Rattle.contract_parse.proofs.HeadFacts.{model_begins}
use Rattle.contract_parse.proofs.heads.long_word_at.Goals as goal

pub returns-in-Code : goal.returns-in-Code
returns-in-Code c = λ word.
    let is : is_the_word (codes "model") (tok_of c.args.token.now) ≡ true = rw word (grind (arith, common_steps)) in
    rw c.in-Code.is (sym (model_begins (tok_of c.args.token.now) is))
