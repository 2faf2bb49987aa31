use Rattle.std.proofs.Common.{sym, arith}
use Rattle.interval_check.specs.Ranges.{range}
use Rattle.interval_check.proofs.OperatorFacts.{stays_both}
use Rattle.interval_check.proofs.ranges.align_both.Goals as goal

pub returns-then-scale-clause-shared : goal.returns-then-scale-clause-shared
returns-then-scale-clause-shared c =
    sym (stays_both (range c.args.left) (range c.args.right) (omega arith) c.requires.left c.requires.right)
