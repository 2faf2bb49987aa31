use Rattle.sample.specs.Gathering.{IsGathered}
use Rattle.sample.proofs.summing.gather.Given as goal

abbrev pub invariant-loop-number : goal.invariant-loop-number
invariant-loop-number l = IsGathered l.number l.lines l.tables.items
