use Rattle.std.proofs.Common.{arith}
use Rattle.interval_check.specs.Totals.{total}
use Rattle.interval_check.proofs.TotalSizes.{at_less}
use Rattle.interval_check.proofs.totals.total_of_either.Goals as goal

pub amount_at-requires-clause-small : goal.amount_at-requires-clause-small
amount_at-requires-clause-small c =
    at_less c.max-scale.result c.args.decimals (total c.args.hit) (omega arith) c.requires.hit.aligned

pub amount_at-requires-2-clause-small : goal.amount_at-requires-2-clause-small
amount_at-requires-2-clause-small c =
    at_less c.max-scale.result c.args.decimals (total c.args.miss) (omega arith) c.requires.miss.aligned
