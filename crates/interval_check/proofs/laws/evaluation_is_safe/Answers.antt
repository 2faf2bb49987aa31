use Rattle.interval_check.proofs.GuaranteeFacts.{expressions_are_safe, bindings_lie_within, contracts_are_safe}
use Rattle.interval_check.proofs.laws.evaluation_is_safe.Goals as goal

pub returns : goal.returns
returns c = record { expressions = expressions_are_safe; bindings = bindings_lie_within; contracts = contracts_are_safe }
