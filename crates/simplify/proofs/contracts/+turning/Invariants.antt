use Rattle.std.proofs.Common.{◌+◌, ◌*◌, max}
use Rattle.term_core.specs.declared.shared.SharedContr.{size-SharedContr}
use Rattle.simplify.proofs.contracts.+turning.Given as goal

abbrev pub decreases-turn_in : goal.decreases-turn_in
decreases-turn_in l = 2 * size-SharedContr l.s.now

abbrev pub decreases-turn_sides : goal.decreases-turn_sides
decreases-turn_sides l = 2 * max (size-SharedContr l.left.now.value) (size-SharedContr l.right.now.value) + 1

abbrev pub decreases-turn_scaled : goal.decreases-turn_scaled
decreases-turn_scaled l = 2 * size-SharedContr l.body.now.value + 1

abbrev pub decreases-turn_delayed : goal.decreases-turn_delayed
decreases-turn_delayed l = 2 * size-SharedContr l.body.now.value + 1

abbrev pub decreases-turn_bound : goal.decreases-turn_bound
decreases-turn_bound l = 2 * size-SharedContr l.body.now.value + 1

abbrev pub decreases-turn_tested : goal.decreases-turn_tested
decreases-turn_tested l = 2 * max (size-SharedContr l.hit.now.value) (size-SharedContr l.miss.now.value) + 1
