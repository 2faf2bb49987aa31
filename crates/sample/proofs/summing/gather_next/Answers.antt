use Rattle.sample.proofs.ContractFacts.{is_admitted_same, rows_summable}
use Rattle.sample.proofs.GatheringFacts.{gathered_next}
use Rattle.sample.proofs.summing.gather_next.Goals as goal

pub over_days-requires-clause-summable : goal.over_days-requires-clause-summable
over_days-requires-clause-summable c =
    rows_summable c.args.number c.in_ok-table.table.rows.items (is_admitted_same c.args.fixings.now c.requires.same c.requires.admitted) c.in_ok-table.ensures.rows

pub returns : goal.returns
returns c =
    gathered_next c.args.number c.args.lines c.more_lines-more.result c.args.tables.now.items c.push.new.self.items c.in_ok-table.table.rows.items c.in_ok-sums.sums (is_admitted_same c.args.fixings.now c.requires.same c.requires.admitted) c.requires.before c.in_ok-table.ensures.rows c.in_ok-sums.ensures
    c.more_lines-more.ensures.more c.more_lines-more.ensures.few c.in_ok-push.ensures.items
