use Rattle.std.proofs.Common.{◌≡◌, ◌<◌, ◌++◌, List, arith, get_or, length, pos, subst, sym, take}
use Rattle.std.specs.Prelude.{codes}
use Rattle.std.proofs.lemmas.List.{take_more}
use Rattle.term_model.specs.Declarations.{declarations}
use Rattle.report.specs.FlowLines.{AppendsFlowLine}
use Rattle.lifecycle_commands.specs.AdvanceParts.{AppendsComments}
use Rattle.flow_eval.specs.declared.flow_table.FlowRow.{FlowRow}
use Rattle.lifecycle_commands.proofs.AdvanceFacts.{appends_comment}
use Rattle.used_contracts.proofs.LineFacts.{row_has_line}
use Rattle.lifecycle_commands.proofs.advance.append_comments.Goals as goal

pub flow_line-requires-clause-multiple : goal.flow_line-requires-clause-multiple
flow_line-requires-clause-multiple c =
    row_has_line (declarations c.args.decls.now) c.args.table.now.rows.items c.deref-row-items.result.now c.loop-row.row-index (record { day = pos 0; asset = 0; from = 0; to = 0; amount = pos 0 })
    c.requires.lines c.deref-row-items.ensures.value (omega arith)

pub loop-row-preserved : goal.loop-row-preserved
loop-row-preserved c =
    let d = declarations c.args.decls.now in
    let rows = c.args.table.now.rows.items in
    let i = c.loop-row.row-index in
    let none : FlowRow = record { day = pos 0; asset = 0; from = 0; to = 0; amount = pos 0 } in
    let h : i < length rows = omega arith in
    let before = c.args.out.now.items in
    let middle = c.loop-row.out.items in
    let marked = c.extend_from_slice.new.self.items in
    let after = c.flow_line.new.out.items in
    let mark : marked ≡ middle ++ codes "# " = c.in_ok-extend_from_slice.ensures.items in
    let one = subst (λ (xs : List FlowRow). AppendsFlowLine d c.args.name.now (get_or xs i none) marked after) c.deref-row-items.ensures.value c.in_ok-flow_line.ensures.ok in
    subst (λ (xs : List FlowRow). AppendsComments d c.args.name.now xs before after) (sym (take_more rows i none h)) (appends_comment d c.args.name.now (take i rows) _ before middle marked after c.loop-row.invariant mark one)
