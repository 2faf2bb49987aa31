use Rattle.flow_commands.proofs.DueOfFlowFacts.{due_of_flows}
use Rattle.valuation_commands.proofs.DueOfValueFacts.{due_of_value}
use Rattle.flow_commands.proofs.NettingCauses.{due_of_positions, due_of_settlements}
use Rattle.valuation_commands.proofs.DueOfScenarioFacts.{due_of_scenarios}
use Rattle.contract_cli.proofs.DueOfLifecycle.{due_of_advance, due_of_novate}
use Rattle.contract_cli.proofs.DueOfTexts.{due_of_check, due_of_expand, due_of_migrate, due_of_payoff}
use Rattle.contract_cli.proofs.laws.causes_are_due.Goals as goal

pub returns : goal.returns
returns c = record {
  check = due_of_check;
  flows = due_of_flows;
  value = due_of_value;
  positions = due_of_positions;
  settlements = due_of_settlements;
  scenarios = due_of_scenarios;
  advance = due_of_advance;
  novate = due_of_novate;
  payoff = due_of_payoff;
  migrate = due_of_migrate;
  expand = due_of_expand;
}
