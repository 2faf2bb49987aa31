use Rattle.std.proofs.Common.{◌∙◌, ◌++◌, List, ap, map}
use Rattle.flow_eval.specs.declared.flow_table.FlowRow.{FlowRow}
use Rattle.report.specs.RunningSums.{KeepsSum}
use Rattle.report.specs.SumTables.{payment_of}
use Rattle.report.specs.declared.sums.FlowSum.{FlowSum}
use Rattle.report.proofs.RunningFacts.{if_refused, one_more, same_keeps}
use Rattle.report.proofs.sums.FlowSum.add.Goals as goal

pub returns-in_err-append_payments-clause-err : goal.returns-in_err-append_payments-clause-err
returns-in_err-append_payments-clause-err c =
    let before = c.net_if_due.new.self in
    let after : FlowSum = record { payments = c.append_payments.new.out; due = before.due } in
    if_refused c.from_residual-in_err-append_payments.result (KeepsSum c.args.self.now after)
    (λ tables h. same_keeps before after c.in_err-append_payments.ensures.err tables (c.net_if_due.ensures tables h))

pub returns-clause-ok : goal.returns-clause-ok
returns-clause-ok c = λ tables h.
    let before = c.net_if_due.new.self in
    let after : FlowSum = record { payments = c.append_payments.new.out; due = before.due } in
    let appended = c.in_ok-append_payments.ensures.ok ∙ ap (λ (rs : List FlowRow). before.payments.items ++ map payment_of rs) c.deref.ensures.value in
    one_more c.args.table.now tables before after c.requires appended (c.net_if_due.ensures tables h)
