use Rattle.report.proofs.RunningFacts.{sum_fits, told_if_ok}
use Rattle.report.proofs.sums.FlowSum.table.Goals as goal

pub netted-requires : goal.netted-requires
netted-requires c = sum_fits c.args.self c.requires

pub returns : goal.returns
returns c = told_if_ok c.args.self c.netted.result c.requires c.netted.ensures
