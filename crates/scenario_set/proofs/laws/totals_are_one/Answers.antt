use Rattle.scenario_set.proofs.OneTotalFacts.{totals_are_one}
use Rattle.scenario_set.proofs.laws.totals_are_one.Goals as goal

pub returns : goal.returns
returns c = totals_are_one c.code_values_are_fixed.ensures
