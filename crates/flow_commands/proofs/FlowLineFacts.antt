-- One more line of a row.
use Rattle.std.proofs.Common.{◌∙◌, ℕ, List, [], ◌∷◌, ◌++◌, append_assoc, ap, refl}
use Rattle.term_model.specs.Declarations.{Declarations}
use Rattle.flow_eval.specs.declared.flow_table.FlowRow.{FlowRow}
use Rattle.report.specs.FlowLines.{AppendsFlowLine, IsFlowLine}
use Rattle.used_contracts.proofs.LineFacts.{none_and, some_and}
use Rattle.flow_commands.specs.FlowsParts.{AppendsLines}
use Rattle.flow_commands.specs.FlowsPromise.{AreLines}

lines_more : (d : Declarations) (name : List ℕ) (rows : List FlowRow) (text : List ℕ) (row : FlowRow) (line : List ℕ) → AreLines d name rows text → IsFlowLine d name row line → AreLines d name (rows ++ row ∷ []) (text ++ line)
lines_more d name [] text row line none is = (line, [], is, refl, none_and text line none)
lines_more d name (r ∷ rows) text row line some is =
    (some.0, some.1 ++ line, some.2, lines_more d name rows some.1 row line some.3 is, some_and text some.0 some.1 line some.4)

pub appends_line : (d : Declarations) (name : List ℕ) (rows : List FlowRow) (row : FlowRow) (before middle after : List ℕ) → AppendsLines d name rows before middle → AppendsFlowLine d name row middle after → AppendsLines d name (rows ++ row ∷ []) before after
appends_line d name rows row before middle after some more =
    record { text = some.text ++ more.line; lines = lines_more d name rows some.text row more.line some.lines more.is_line; appended = more.appended ∙ ap (λ (t : List ℕ). t ++ more.line) some.appended ∙ append_assoc before some.text more.line }
