use Rattle.std.proofs.Common.{◌∙◌, pos, subst, sym}
use Rattle.std.specs.Prelude.{Err, Some}
use Rattle.term_model.specs.declared.name.Name.{Name}
use Rattle.term_model.specs.Declarations.{declarations}
use Rattle.term_model.specs.Terms.{Contract, contract}
use Rattle.report.specs.declared.fault_lines.Fault.{Fault}
use Rattle.lifecycle_commands.specs.AdvanceParts.{AddsRest, AnswersAdvanced}
use Rattle.lifecycle_commands.specs.AdvancePromise.{last_gone}
use Rattle.command_courses.specs.declared.stop.Stop.{Stop}
use Rattle.lifecycle_commands.proofs.AdvanceFacts.{on_ok_both, rest_on, rest_still, rest_stops}
use Rattle.used_contracts.proofs.LineFacts.{rows_have_lines}
use Rattle.lifecycle_commands.proofs.WritableFacts.{residual_writable}
use Rattle.lifecycle_commands.proofs.advance.advance_one.Goals as goal

pub keep-requires-clause-lines : goal.keep-requires-clause-lines
keep-requires-clause-lines c =
    let to = c.args.to.now in
    let d = declarations to.choice.decls.now in
    rows_have_lines d (contract c.args.one.contr) to.fixings.now (pos d.start) (last_gone to.day) c.in-Ok.advanced.due.rows.items c.requires.accepted c.in-Ok.ensures.flows

pub keep-requires-clause-writable : goal.keep-requires-clause-writable
keep-requires-clause-writable c =
    let to = c.args.to.now in
    residual_writable (declarations to.choice.decls.now) to.fixings.now _ _ (contract c.args.one.contr) (contract c.in-Ok.advanced.rest) c.in-Ok.ensures.residual

pub returns-then-is_some : goal.returns-then-is_some
returns-then-is_some c =
    rest_still c.args.to.now (c.args.one.name.now, contract c.args.one.contr) c.args.kept.now (sym c.is_some.ensures ∙ c.if-is_some.true)

pub returns-in-Err-Fault : goal.returns-in-Err-Fault
returns-in-Err-Fault c =
    let to = c.args.to.now in
    let entry : Name × Contract = (c.args.one.name.now, contract c.args.one.contr) in
    let kept = c.args.kept.now in
    let answer = subst (λ (e : Stop). AnswersAdvanced to (contract c.args.one.contr) (Err e)) c.in-Err-Fault.field-0-is c.in-Err-Fault.ensures in
    subst (λ (f : Fault). AddsRest to entry kept (record { left = kept.left; missing = Some f })) (sym c.in-Err-Fault.fault-is)
    (rest_stops to entry kept c.in-Err-Fault.fault (sym c.is_some.ensures ∙ c.if-is_some.false) answer)

pub returns-in-Ok : goal.returns-in-Ok
returns-in-Ok c =
    on_ok_both _ _ _ c.keep.result c.keep.ensures.due c.keep.ensures.rest
    (λ comments line.
    rest_on c.args.to.now (c.args.one.name.now, contract c.args.one.contr) c.args.kept.now c.in-Ok.advanced c.keep.new.left (sym c.is_some.ensures ∙ c.if-is_some.false)
    c.in-Ok.ensures comments line)
