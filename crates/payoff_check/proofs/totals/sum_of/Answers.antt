use Rattle.std.proofs.Common.{arith, ◌≤◌, ◌^◌}
use Rattle.payoff_check.specs.BoundTrials.{at_decimals}
use Rattle.payoff_check.proofs.TotalSizes.{at_less}
use Rattle.payoff_check.proofs.totals.sum_of.Goals as goal

pub amount_at-requires : goal.amount_at-requires
amount_at-requires c = at_less c.max-scale.result c.args.decimals.count c.args.left (omega arith) c.requires.left.aligned

pub amount_at-requires-2 : goal.amount_at-requires-2
amount_at-requires-2 c = at_less c.max-scale.result c.args.decimals.count c.args.right (omega arith) c.requires.right.aligned

pub overflow_add-of : goal.overflow_add-of
overflow_add-of c =
    let left : at_decimals c.max-scale.result c.args.left ≤ 10 ^ 37 = at_less c.max-scale.result c.args.decimals.count c.args.left (omega arith) c.requires.left.aligned in
    let right : at_decimals c.max-scale.result c.args.right ≤ 10 ^ 37 = at_less c.max-scale.result c.args.decimals.count c.args.right (omega arith) c.requires.right.aligned in
    omega (arith, c.amount_at.ensures, c.amount_at-2.ensures)
