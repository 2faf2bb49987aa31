use Rattle.std.proofs.Common.{◌≡◌, ◌∙◌, ◌++◌, List, ap, map, subst, sym}
use Rattle.std.specs.List.{All}
use Rattle.flow_eval.specs.Tables.{FitsLine}
use Rattle.flow_eval.specs.declared.flow_table.FlowRow.{FlowRow}
use Rattle.flow_eval.specs.declared.payments.Payment.{Payment}
use Rattle.report.specs.SumTables.{payment_of}
use Rattle.report.specs.declared.sums.FlowSum.{FlowSum}
use Rattle.report.proofs.RunningFacts.{netted_fit, netted_keeps, reordered_keeps}
use Rattle.report.proofs.sums.FlowSum.net.Goals as goal

pub returns-in_err-table : goal.returns-in_err-table
returns-in_err-table c =
    reordered_keeps c.args.self.now (record { payments = c.net_payments.new.payments; due = c.args.self.now.due }) c.net_payments.ensures.moved

pub returns-in_err-payments : goal.returns-in_err-payments
returns-in_err-payments c =
    reordered_keeps c.args.self.now (record { payments = c.net_payments.new.payments; due = c.args.self.now.due }) c.net_payments.ensures.moved

pub append_payments-requires : goal.append_payments-requires
append_payments-requires c =
    subst (All (λ (r : FlowRow). FitsLine r.amount)) (sym c.deref.ensures.value)
    (netted_fit c.args.self.now.payments.items c.in_ok-table.table.rows.items c.requires c.in_ok-table.ensures.nets)

pub returns-in_err-append_payments : goal.returns-in_err-append_payments
returns-in_err-append_payments c =
    reordered_keeps c.args.self.now (record { payments = c.net_payments.new.payments; due = c.args.self.now.due }) c.net_payments.ensures.moved

pub returns : goal.returns
returns c =
    let rows = c.in_ok-table.table.rows.items in
    let after : FlowSum = record { payments = c.append_payments.new.out; due = c.max-self.result } in
    let are : after.payments.items ≡ map payment_of rows =
    c.in_ok-append_payments.ensures.ok
    ∙ ap (λ (ps : List Payment). ps ++ map payment_of c.deref.result.now) c.in_ok-payments.ensures.items
    ∙ ap (λ (rs : List FlowRow). map payment_of rs) c.deref.ensures.value in
    netted_keeps rows c.args.self.now after c.in_ok-table.ensures.nets are
