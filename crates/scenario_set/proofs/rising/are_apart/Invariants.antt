use Rattle.std.proofs.Common.{take}
use Rattle.std.specs.Prelude.{All}
use Rattle.scenario_set.specs.Rising.{AreApart}
use Rattle.scenario_set.proofs.rising.are_apart.Given as goal

abbrev pub invariant-loop-scenario : goal.invariant-loop-scenario
invariant-loop-scenario l = All (λ s. AreApart s.own.items l.fixings) (take l.scenario-index l.each)
