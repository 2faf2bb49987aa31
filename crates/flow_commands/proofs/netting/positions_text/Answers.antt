use Rattle.std.proofs.Common.{ℕ, List, [], subst, sym}
use Rattle.term_model.specs.Declarations.{declarations}
use Rattle.command_words.specs.Words.{netting_by}
use Rattle.command_courses.specs.Inputs.{bytes_of}
use Rattle.flow_commands.specs.NettingParts.{AppendsPositions}
use Rattle.flow_commands.specs.NettingPromise.{ArePositionLines, TellsPositions}
use Rattle.flow_commands.proofs.NettingFacts.{due_positions, net_can_be_added_up, positions_of_net, stopped_without_net, told_of_net}
use Rattle.flow_commands.proofs.netting.positions_text.Goals as goal

pub returns-in_err-decls : goal.returns-in_err-decls
returns-in_err-decls c =
    stopped_without_net TellsPositions (netting_by c.args.asked.now) (bytes_of c.args.inputs.files.now) c.in_err-decls.field-0.0 c.from_residual.result
    c.in_err-decls.ensures c.from_residual.ensures.1

pub positions-requires : goal.positions-requires
positions-requires c =
    let h = c.in_ok-decls.ensures in
    net_can_be_added_up (declarations c.in_ok-decls.decls) h.tables c.in_ok-decls.net h.known.ready h.is_net

pub append_positions-requires : goal.append_positions-requires
append_positions-requires c =
    let h = c.in_ok-decls.ensures in
    let rows = c.in_ok-found.found.rows.items in
    due_positions (declarations c.in_ok-decls.decls) h.tables rows h.known.ready
    (positions_of_net h.tables c.in_ok-decls.net rows h.is_net c.in_ok-found.ensures)

pub returns : goal.returns
returns c =
    let d = declarations c.in_ok-decls.decls in
    let h = c.in_ok-decls.ensures in
    let tables = h.tables in
    let rows = c.in_ok-found.found.rows.items in
    let text = c.append_positions.new.out.items in
    let found = positions_of_net tables c.in_ok-decls.net rows h.is_net c.in_ok-found.ensures in
    let lines : AppendsPositions d rows [] text = subst (λ (before : List ℕ). AppendsPositions d rows before text) c.new-lines.ensures.items c.in_ok-append_positions.ensures in
    let told : TellsPositions d tables text = record {
      rows = rows;
      positions = found;
      lines = subst (λ (t : List ℕ). ArePositionLines d rows t) (sym lines.appended) lines.lines;
    } in
    told_of_net TellsPositions (netting_by c.args.asked.now) (bytes_of c.args.inputs.files.now) d c.in_ok-decls.net text h told
