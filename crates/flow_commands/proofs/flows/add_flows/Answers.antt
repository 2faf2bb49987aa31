use Rattle.std.proofs.Common.{pos, subst, sym}
use Rattle.std.specs.Prelude.{Err, Some}
use Rattle.std.proofs.lemmas.Result.{on_ok_weaker}
use Rattle.term_model.specs.declared.name.Name.{Name}
use Rattle.term_model.specs.Declarations.{declarations}
use Rattle.term_model.specs.Terms.{Contract, contract}
use Rattle.report.specs.declared.fault_lines.Fault.{Fault}
use Rattle.flow_commands.specs.FlowsParts.{AddsFlows, AnswersTable}
use Rattle.command_courses.specs.declared.stop.Stop.{Stop}
use Rattle.flow_commands.proofs.KeptFlowsFacts.{flows_on, flows_still, flows_stop}
use Rattle.used_contracts.proofs.LineFacts.{rows_have_lines, rows_writable}
use Rattle.flow_commands.proofs.SumLineFacts.{one_summable}
use Rattle.flow_commands.proofs.flows.add_flows.Goals as goal

pub list_table-requires-clause-summable : goal.list_table-requires-clause-summable
list_table-requires-clause-summable c =
    let until = c.args.until.now in
    one_summable (declarations until.choice.decls.now) until.fixings.now until.last until.choice.decls.now.labels_in c.requires.admitted
    (contract c.args.one.contr) c.in-Ok.table.rows.items c.requires.accepted c.in-Ok.ensures

pub list_table-requires-clause-due : goal.list_table-requires-clause-due
list_table-requires-clause-due c =
    rows_writable c.args.until.now.choice.decls.now.start c.args.until.now.last c.in-Ok.table.rows.items c.args.until.now.within c.in-Ok.ensures.due

pub list_table-requires-clause-lines : goal.list_table-requires-clause-lines
list_table-requires-clause-lines c =
    rows_have_lines (declarations c.args.until.now.choice.decls.now) (contract c.args.one.contr) c.args.until.now.fixings.now
    (pos c.args.until.now.choice.decls.now.start) c.args.until.now.last c.in-Ok.table.rows.items c.requires.accepted c.in-Ok.ensures

pub returns-then-is_some : goal.returns-then-is_some
returns-then-is_some c = flows_still c.args.until.now (c.args.one.name.now, contract c.args.one.contr) c.args.kept.now (sym c.if-is_some.ensures)

pub returns-in-Err-Fault : goal.returns-in-Err-Fault
returns-in-Err-Fault c =
    let until = c.args.until.now in
    let entry : Name × Contract = (c.args.one.name.now, contract c.args.one.contr) in
    let kept = c.args.kept.now in
    let answer = subst (λ (e : Stop). AnswersTable (declarations until.choice.decls.now) (contract c.args.one.contr) until.fixings.now until.last (Err e)) c.in-Err-Fault.field-0-is c.in-Err-Fault.ensures in
    subst (λ (f : Fault). AddsFlows until entry kept (record { listed = kept.listed; missing = Some f })) (sym c.in-Err-Fault.fault-is)
    (flows_stop until entry kept c.in-Err-Fault.fault (sym c.if-is_some.ensures) answer)

pub returns-in-Ok : goal.returns-in-Ok
returns-in-Ok c =
    on_ok_weaker c.list_table.result
    (flows_on c.args.until.now (c.args.one.name.now, contract c.args.one.contr) c.args.kept.now c.list_table.new.listed c.in-Ok.table (sym c.if-is_some.ensures) c.in-Ok.ensures)
    c.list_table.ensures
