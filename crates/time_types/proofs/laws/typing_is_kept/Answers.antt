use Rattle.time_types.proofs.TypingFacts.{expressions_rise, contracts_fall}
use Rattle.time_types.proofs.laws.typing_is_kept.Goals as goal

pub returns : goal.returns
returns c = record { expressions = expressions_rise; contracts = contracts_fall }
