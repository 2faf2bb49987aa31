use Rattle.std.proofs.Common.{◌≡◌, Some, drop, []}
use Rattle.clap.specs.Walk.{texts}
use Rattle.command_words.specs.Commands.{AreSettings}
use Rattle.command_words.specs.Words.{settings_after}
use Rattle.command_words.proofs.value_words.settings_of.Given as goal

abbrev pub invariant-loop-word : goal.invariant-loop-word
invariant-loop-word l =
    (settings_after (Some l.settings.entries) (texts (drop l.word-index l.fn.words)) ≡ settings_after (Some []) (texts l.fn.words))
    × AreSettings l.settings.entries
