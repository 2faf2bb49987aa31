use Rattle.contract_parse.proofs.LinesTaken.{decls_taken}
use Rattle.contract_parse.proofs.laws.declarations_are_taken.Goals as goal

pub returns : goal.returns
returns c = λ d ps ts rest x behind. decls_taken d ps ts rest x behind
