use Rattle.std.proofs.Common.{◌∙◌}
use Rattle.contract_grammar.proofs.EntryFacts.{entry_added}
use Rattle.command_words.proofs.value_words.put.Goals as goal

pub returns : goal.returns
returns c = c.in_ok-insert.ensures.entries ∙ entry_added c.args.settings.now.entries c.args.name c.args.number c.requires
