use Rattle.contract_print.proofs.LinesSpelled.{decls_spelled}
use Rattle.payoff_lang.proofs.CodeFileSpelled.{file_spelled}
use Rattle.payoff_lang.proofs.laws.code_canon_is_text.Goals as goal

pub returns : goal.returns
returns c = file_spelled decls_spelled
