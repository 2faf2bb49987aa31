use Rattle.std.proofs.Common.{ℕ, List, [], subst, sym}
use Rattle.std.specs.Prelude.{codes}
use Rattle.term_model.specs.Declarations.{declarations}
use Rattle.flow_commands.specs.FlowsParts.{AppendsLines}
use Rattle.flow_commands.specs.FlowsPromise.{AreLines}
use Rattle.used_contracts.proofs.LineFacts.{rows_writable}
use Rattle.flow_commands.proofs.SumLineFacts.{sum_due, sum_has_lines, sum_known, sum_of_few}
use Rattle.flow_commands.proofs.flows.sum_lines.Goals as goal

pub table-requires : goal.table-requires
table-requires c =
    let until = c.args.until.now in
    let h = c.requires.summable in
    sum_of_few (declarations until.choice.decls.now) until.fixings.now until.last until.choice.decls.now.labels_in c.requires.admitted h.entries c.args.sum h.few h.is_sum

pub append_table-requires-clause-due : goal.append_table-requires-clause-due
append_table-requires-clause-due c =
    let until = c.args.until.now in
    let of = c.requires.summable.is_sum in
    let rows = c.in_ok-table.table.rows.items in
    rows_writable until.choice.decls.now.start until.last rows until.within
    (sum_due (declarations until.choice.decls.now) until.fixings.now until.last until.choice.decls.now.labels_in c.requires.admitted c.requires.summable.entries of.tables rows of.are_tables
    (c.in_ok-table.ensures of.tables of.is_sum).0)

pub append_table-requires-clause-lines : goal.append_table-requires-clause-lines
append_table-requires-clause-lines c =
    let until = c.args.until.now in
    let h = c.requires.summable in
    let of = h.is_sum in
    sum_has_lines (declarations until.choice.decls.now) until.fixings.now until.last until.choice.decls.now.labels_in c.requires.admitted h.entries of.tables
    c.in_ok-table.table.rows.items h.accepted of.are_tables (c.in_ok-table.ensures of.tables of.is_sum).0

pub returns : goal.returns
returns c = λ entries of.
    let until = c.args.until.now in
    let d = declarations until.choice.decls.now in
    let rows = c.in_ok-table.table.rows.items in
    let text = c.append_table.new.out.items in
    let lines : AppendsLines d (codes "*") rows [] text = subst (λ (before : List ℕ). AppendsLines d (codes "*") rows before text) c.new-text.ensures.items c.in_ok-append_table.ensures in
    sum_known d until.fixings.now until.last until.choice.decls.now.labels_in c.requires.admitted entries of.tables rows text of.are_tables (c.in_ok-table.ensures of.tables of.is_sum).0
    (subst (λ (t : List ℕ). AreLines d (codes "*") rows t) (sym lines.appended) lines.lines)
