use Rattle.std.proofs.Common.{◌+◌, ◌*◌, max}
use Rattle.payoff_terms.specs.declared.code.Vx.{size-Vx}
use Rattle.payoff_check.proofs.value_sizes.+sizing.Given as goal

abbrev pub decreases-size_of_value : goal.decreases-size_of_value
decreases-size_of_value l = 2 * size-Vx l.e.now

abbrev pub decreases-size_over_one : goal.decreases-size_over_one
decreases-size_over_one l = 2 * size-Vx l.of.now + 1

abbrev pub decreases-size_over_two : goal.decreases-size_over_two
decreases-size_over_two l = 2 * max (size-Vx l.left.now) (size-Vx l.right.now) + 1

abbrev pub decreases-size_over_three : goal.decreases-size_over_three
decreases-size_over_three l = 2 * max (size-Vx l.test.now) (max (size-Vx l.yes.now) (size-Vx l.no.now)) + 1

abbrev pub decreases-size_over_days : goal.decreases-size_over_days
decreases-size_over_days l = 2 * max (size-Vx l.body.now) (size-Vx l.first.now) + 1
