-- What the readers of declarations make of parts of a line: the range of a label stands behind its name, and a label
-- that is a flag has none.
use Rattle.term_model.specs.declared.label.Label.{Label}
use Rattle.term_model.specs.declared.label.Label.TheVariants as label
use Rattle.contract_grammar.specs.Spelling.{Part}
use Rattle.contract_grammar.specs.Statements.{range}

abbrev pub label_range : Label → Part
label_range (label.Number scale low high) = range scale low high
label_range label.Flag = λ ts rest. ⊥
