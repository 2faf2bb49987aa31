use Rattle.std.proofs.Common.{◌∙◌, arith}
use Rattle.interval_check.specs.Ranges.{range}
use Rattle.interval_check.proofs.OperatorFacts.{rounds_up}
use Rattle.interval_check.proofs.ranges.rounded.Goals as goal

pub returns-then-from-scale-clause-range : goal.returns-then-from-scale-clause-range
returns-then-from-scale-clause-range c =
    c.widened.ensures.range ∙ rounds_up c.args.mode c.args.scale (range c.args.of) (omega arith)
