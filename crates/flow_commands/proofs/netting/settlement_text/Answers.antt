use Rattle.std.proofs.Common.{ℕ, List, [], subst, sym}
use Rattle.std.specs.Prelude.{codes}
use Rattle.term_model.specs.Declarations.{declarations}
use Rattle.command_words.specs.Words.{netting_by}
use Rattle.command_courses.specs.Inputs.{bytes_of}
use Rattle.flow_commands.specs.FlowsParts.{AppendsLines}
use Rattle.flow_commands.specs.FlowsPromise.{AreLines}
use Rattle.flow_commands.specs.NettingPromise.{TellsSettlement}
use Rattle.flow_commands.proofs.NettingFacts.{can_be_added_up, due_settled, net_can_be_added_up, positions_of_net, settled_have_lines, stopped_without_net, told_of_net}
use Rattle.flow_commands.proofs.netting.settlement_text.Goals as goal

pub returns-in_err-decls : goal.returns-in_err-decls
returns-in_err-decls c =
    stopped_without_net TellsSettlement (netting_by c.args.asked.now) (bytes_of c.args.inputs.files.now) c.in_err-decls.field-0.0 c.from_residual.result
    c.in_err-decls.ensures c.from_residual.ensures.1

pub positions-requires : goal.positions-requires
positions-requires c =
    let h = c.in_ok-decls.ensures in
    net_can_be_added_up (declarations c.in_ok-decls.decls) h.tables c.in_ok-decls.net h.known.ready h.is_net

pub settle-requires : goal.settle-requires
settle-requires c =
    let h = c.in_ok-decls.ensures in (
      h.tables,
      can_be_added_up (declarations c.in_ok-decls.decls) h.tables h.known.ready,
      positions_of_net h.tables c.in_ok-decls.net c.in_ok-found.found.rows.items h.is_net c.in_ok-found.ensures,
    )

pub append_table-requires-clause-due : goal.append_table-requires-clause-due
append_table-requires-clause-due c =
    let h = c.in_ok-decls.ensures in
    let tables = h.tables in
    let found = positions_of_net tables c.in_ok-decls.net c.in_ok-found.found.rows.items h.is_net c.in_ok-found.ensures in
    due_settled (declarations c.in_ok-decls.decls) tables c.in_ok-settled.settled.rows.items h.known.ready (c.in_ok-settled.ensures.settles tables found) (c.in_ok-settled.ensures.in_turn tables found)

pub append_table-requires-clause-lines : goal.append_table-requires-clause-lines
append_table-requires-clause-lines c =
    let h = c.in_ok-decls.ensures in
    let tables = h.tables in
    let found = positions_of_net tables c.in_ok-decls.net c.in_ok-found.found.rows.items h.is_net c.in_ok-found.ensures in
    settled_have_lines (declarations c.in_ok-decls.decls) tables c.in_ok-settled.settled.rows.items h.known.ready (c.in_ok-settled.ensures.in_turn tables found)

pub returns : goal.returns
returns c =
    let d = declarations c.in_ok-decls.decls in
    let h = c.in_ok-decls.ensures in
    let tables = h.tables in
    let rows = c.in_ok-settled.settled.rows.items in
    let text = c.append_table.new.out.items in
    let found = positions_of_net tables c.in_ok-decls.net c.in_ok-found.found.rows.items h.is_net c.in_ok-found.ensures in
    let lines : AppendsLines d (codes "*") rows [] text = subst (λ (before : List ℕ). AppendsLines d (codes "*") rows before text) c.new-lines.ensures.items c.in_ok-append_table.ensures in
    let told : TellsSettlement d tables text = record {
      rows = rows;
      settles = c.in_ok-settled.ensures.settles tables found;
      in_turn = c.in_ok-settled.ensures.in_turn tables found;
      lines = subst (λ (t : List ℕ). AreLines d (codes "*") rows t) (sym lines.appended) lines.lines;
    } in
    told_of_net TellsSettlement (netting_by c.args.asked.now) (bytes_of c.args.inputs.files.now) d c.in_ok-decls.net text h told
