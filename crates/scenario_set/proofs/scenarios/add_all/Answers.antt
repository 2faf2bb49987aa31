use Rattle.std.proofs.Common.{◌<◌, arith, length}
use Rattle.scenario_set.proofs.HeldFacts.{rows_more}
use Rattle.scenario_set.proofs.scenarios.add_all.Goals as goal

pub loop-row-preserved : goal.loop-row-preserved
loop-row-preserved c =
    let within : c.loop-row.row-index < length c.args.rows.now = omega arith in
    rows_more c.args.few.now c.loop-row.few c.add_row.new.few c.args.rows.now c.loop-row.row-index _ within c.loop-row.invariant c.in_ok-add_row.ensures
