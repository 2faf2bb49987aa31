use Rattle.std.proofs.Common.{rules, sym}
use Rattle.contract_parse.proofs.WholeMarks.{whole_here}
use Rattle.contract_parse.proofs.words.after_byte.Goals as goal

pub returns-in-len1-up-len1-clause-found : goal.returns-in-len1-up-len1-clause-found
returns-in-len1-up-len1-clause-found c =
    whole_here c.args.rest.now c.args.wanted.now (search rules) (search rules) c.if-b-w.true (sym c.if-is_whole_mark.ensures)
