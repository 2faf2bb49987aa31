use Rattle.std.proofs.Common.{arith}
use Rattle.std.proofs.lemmas.Int.{ints}
use Rattle.interval_check.proofs.IntervalFacts.{same_ends}
use Rattle.interval_check.proofs.intervals.sum_of.Goals as goal

pub returns : goal.returns
returns c = same_ends _ _ _ _ (omega (arith, ints)) (omega (arith, ints))
