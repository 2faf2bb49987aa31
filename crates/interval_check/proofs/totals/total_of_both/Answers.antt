use Rattle.std.proofs.Common.{arith, ◌≤◌, ◌^◌}
use Rattle.interval_check.specs.Totals.{total}
use Rattle.interval_check.specs.TotalTrials.{at_decimals}
use Rattle.interval_check.proofs.TotalSizes.{at_less}
use Rattle.interval_check.proofs.totals.total_of_both.Goals as goal

pub amount_at-requires-clause-small : goal.amount_at-requires-clause-small
amount_at-requires-clause-small c =
    at_less c.max-scale.result c.args.decimals (total c.args.left) (omega arith) c.requires.left.aligned

pub amount_at-requires-2-clause-small : goal.amount_at-requires-2-clause-small
amount_at-requires-2-clause-small c =
    at_less c.max-scale.result c.args.decimals (total c.args.right) (omega arith) c.requires.right.aligned

pub overflow_add-amount_at : goal.overflow_add-amount_at
overflow_add-amount_at c =
    let left : at_decimals c.max-scale.result (total c.args.left) ≤ 10 ^ 27 = at_less c.max-scale.result c.args.decimals (total c.args.left) (omega arith) c.requires.left.aligned in
    let right : at_decimals c.max-scale.result (total c.args.right) ≤ 10 ^ 27 = at_less c.max-scale.result c.args.decimals (total c.args.right) (omega arith) c.requires.right.aligned in
    omega (arith, c.amount_at.ensures, c.amount_at-2.ensures)
