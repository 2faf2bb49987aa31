use Rattle.std.proofs.Common.{rules, sym, ◌∙◌}
use Rattle.contract_parse.proofs.WholeMarks.{other_here}
use Rattle.contract_parse.proofs.words.begins_with_other.Goals as goal

pub returns-then-b-w : goal.returns-then-b-w
returns-then-b-w c = λ whole.
    other_here c.args.rest.now c.args.wanted.now (search rules) (search rules) c.if-b-w.true (sym c.is_whole_mark.ensures ∙ whole)
