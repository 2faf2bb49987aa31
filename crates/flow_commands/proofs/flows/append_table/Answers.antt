use Rattle.std.proofs.Common.{◌<◌, List, arith, get_or, length, pos, subst, sym, take}
use Rattle.std.proofs.lemmas.List.{take_more}
use Rattle.term_model.specs.Declarations.{declarations}
use Rattle.report.specs.FlowLines.{AppendsFlowLine}
use Rattle.flow_commands.specs.FlowsParts.{AppendsLines}
use Rattle.flow_eval.specs.declared.flow_table.FlowRow.{FlowRow}
use Rattle.flow_commands.proofs.FlowLineFacts.{appends_line}
use Rattle.used_contracts.proofs.LineFacts.{row_has_line}
use Rattle.flow_commands.proofs.flows.append_table.Goals as goal

pub flow_line-requires-clause-multiple : goal.flow_line-requires-clause-multiple
flow_line-requires-clause-multiple c =
    row_has_line (declarations c.args.decls.now) c.args.table.now.rows.items c.deref-row-items.result.now c.loop-row.row-index (record { day = pos 0; asset = 0; from = 0; to = 0; amount = pos 0 })
    c.requires.lines c.deref-row-items.ensures.value (omega arith)

pub loop-row-preserved : goal.loop-row-preserved
loop-row-preserved c =
    let rows = c.args.table.now.rows.items in
    let i = c.loop-row.row-index in
    let none : FlowRow = record { day = pos 0; asset = 0; from = 0; to = 0; amount = pos 0 } in
    let h : i < length rows = omega arith in
    let one = subst (λ (xs : List FlowRow). AppendsFlowLine (declarations c.args.decls.now) c.args.name.now (get_or xs i none) c.loop-row.out.items c.flow_line.new.out.items) c.deref-row-items.ensures.value c.in_ok-flow_line.ensures.ok in
    subst (λ (xs : List FlowRow). AppendsLines (declarations c.args.decls.now) c.args.name.now xs c.args.out.now.items c.flow_line.new.out.items) (sym (take_more rows i none h)) (appends_line (declarations c.args.decls.now) c.args.name.now (take i rows) _ c.args.out.now.items c.loop-row.out.items c.flow_line.new.out.items c.loop-row.invariant one)
