use Rattle.payoff_eval.proofs.LawFacts.{values_are_within_totals}
use Rattle.payoff_eval.proofs.laws.values_are_within_totals.Goals as goal

pub returns : goal.returns
returns c = values_are_within_totals
