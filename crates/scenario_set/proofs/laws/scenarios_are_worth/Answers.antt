use Rattle.scenario_set.proofs.LawFacts.{scenarios_are_worth}
use Rattle.scenario_set.proofs.laws.scenarios_are_worth.Goals as goal

pub returns : goal.returns
returns c = scenarios_are_worth c.code_values_are_fixed.ensures
