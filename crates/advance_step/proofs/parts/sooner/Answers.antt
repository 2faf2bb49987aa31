use Rattle.std.proofs.Common.{arith}
use Rattle.std.specs.Int.{w32}
use Rattle.std.proofs.lemmas.Int.{ints, to_z-of_z}
use Rattle.advance_step.proofs.SoonerFacts.{moved_sooner}
use Rattle.advance_step.proofs.parts.sooner.Goals as goal

pub returns-then-moved-ltminus2000000 : goal.returns-then-moved-ltminus2000000
returns-then-moved-ltminus2000000 c = λ e m. moved_sooner e c.args.moved _ c.args.last (λ low.
    let z = to_z-of_z w32 c.args.moved c.ranges.moved in
    absurd (grind (arith, ints, z, low, c.if-moved-ltminus2000000.true))) m

pub returns-else-moved-ltminus2000000 : goal.returns-else-moved-ltminus2000000
returns-else-moved-ltminus2000000 c = λ e m. moved_sooner e c.args.moved _ c.args.last (λ low.
    let z = to_z-of_z w32 c.args.moved c.ranges.moved in
    grind (arith, ints, z, c.back.ensures)) m
