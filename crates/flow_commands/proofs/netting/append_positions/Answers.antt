use Rattle.std.proofs.Common.{◌<◌, List, arith, get_or, length, pos, subst, sym, take}
use Rattle.std.proofs.lemmas.List.{take_more}
use Rattle.term_model.specs.Declarations.{declarations}
use Rattle.exposure.specs.PositionLines.{AppendsPositionLine}
use Rattle.exposure.specs.declared.accounts.PositionRow.{PositionRow}
use Rattle.flow_commands.specs.NettingParts.{AppendsPositions}
use Rattle.flow_commands.proofs.NettingFacts.{appends_position, position_whole}
use Rattle.flow_commands.proofs.netting.append_positions.Goals as goal

abbrev none : PositionRow
none = record { day = pos 0; asset = 0; party = 0; amount = pos 0 }

pub position_line-requires-clause-whole : goal.position_line-requires-clause-whole
position_line-requires-clause-whole c =
    position_whole (declarations c.args.decls.now) c.args.positions.now.rows.items c.deref-row-items.result.now c.loop-row.row-index none
    c.requires c.deref-row-items.ensures.value (omega arith)

pub loop-row-preserved : goal.loop-row-preserved
loop-row-preserved c =
    let d = declarations c.args.decls.now in
    let rows = c.args.positions.now.rows.items in
    let i = c.loop-row.row-index in
    let h : i < length rows = omega arith in
    let one = subst (λ (xs : List PositionRow). AppendsPositionLine d (get_or xs i none) c.loop-row.out.items c.position_line.new.out.items) c.deref-row-items.ensures.value c.in_ok-position_line.ensures.ok in
    subst (λ (xs : List PositionRow). AppendsPositions d xs c.args.out.now.items c.position_line.new.out.items) (sym (take_more rows i none h))
    (appends_position d (take i rows) _ c.args.out.now.items c.loop-row.out.items c.position_line.new.out.items c.loop-row.invariant one)
