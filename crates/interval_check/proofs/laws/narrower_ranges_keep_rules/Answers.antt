use Rattle.interval_check.proofs.NarrowerFacts.{intervals_are_monotone, totals_are_monotone, rules_are_monotone, contract_rules_are_monotone}
use Rattle.interval_check.proofs.laws.narrower_ranges_keep_rules.Goals as goal

pub returns : goal.returns
returns c =
    record { expressions = intervals_are_monotone; contracts = totals_are_monotone; expression_rules = rules_are_monotone; contract_rules = contract_rules_are_monotone }
