use Rattle.std.proofs.Common.{ℕ, ◌-◌, ap, ◌∙◌, arith}
use Rattle.std.specs.Prelude.{nat_le}
use Rattle.payoff_check.proofs.TotalSizes.{small_times}
use Rattle.payoff_check.proofs.totals.is_small_at.Goals as goal

pub returns : goal.returns
returns c =
    ap (λ (most : ℕ). nat_le c.args.of.amount most) c.greatest_at.ensures
    ∙ small_times c.args.of.amount (c.args.decimals.count - c.args.of.scale) (omega (arith, c.args.decimals.few))
