use Rattle.std.proofs.Common.{inl, refl}
use Rattle.scenario_set.proofs.numbers.number_of.Goals as goal

pub returns-in-Some : goal.returns-in-Some
returns-in-Some c = record { is = c.in-Some.ensures; from = inl refl }
