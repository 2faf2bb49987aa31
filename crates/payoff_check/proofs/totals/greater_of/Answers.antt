use Rattle.std.proofs.Common.{arith}
use Rattle.payoff_check.proofs.TotalSizes.{at_less}
use Rattle.payoff_check.proofs.totals.greater_of.Goals as goal

pub amount_at-requires : goal.amount_at-requires
amount_at-requires c = at_less c.max-scale.result c.args.decimals.count c.args.hit (omega arith) c.requires.hit.aligned

pub amount_at-requires-2 : goal.amount_at-requires-2
amount_at-requires-2 c = at_less c.max-scale.result c.args.decimals.count c.args.miss (omega arith) c.requires.miss.aligned
