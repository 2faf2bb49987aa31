use Rattle.std.proofs.Common.{sym}
use Rattle.term_model.specs.Terms.{contract}
use Rattle.used_contracts.proofs.UsedFacts.{own_instance}
use Rattle.used_contracts.proofs.reading.made_of.Goals as goal

pub returns-then-has_only_numbers : goal.returns-then-has_only_numbers
returns-then-has_only_numbers c = sym (own_instance c.args.setting.now.days.items (contract c.args.contr) (c.has_only_numbers.ensures.0 c.if-has_only_numbers.true))
