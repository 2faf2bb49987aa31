use Rattle.std.proofs.Common.{◌≡◌, drop, map}
use Rattle.std.specs.Prelude.{fold}
use Rattle.clap.specs.Words.{app_of, with_rule}
use Rattle.command_words.specs.Arguments.{declared, rule_by}
use Rattle.command_words.proofs.arguments.declare.Given as goal

abbrev pub invariant-loop-argument : goal.invariant-loop-argument
invariant-loop-argument l =
    fold with_rule (app_of l.command) (map rule_by (drop l.argument-index l.fn.arguments)) ≡ declared l.fn.name (map rule_by l.fn.arguments)
