use Rattle.std.proofs.Common.{◌∙◌, sym}
use Rattle.clap.specs.Words.{app_of}
use Rattle.command_words.proofs.Declaring.{one_more, no_more}
use Rattle.command_words.proofs.arguments.declare.Goals as goal

pub loop-argument-preserved : goal.loop-argument-preserved
loop-argument-preserved c =
    sym (one_more _ _ _ c.args.arguments.now c.loop-argument.argument-index _ (c.in_ok-command.ensures.shape c.arg_of.ensures.local) c.arg_of.ensures.rule c.loop-argument-test.true) ∙ c.loop-argument.invariant

pub returns : goal.returns
returns c = no_more (app_of c.loop-argument.command) c.args.arguments.now c.loop-argument.argument-index c.loop-argument-test.false ∙ c.loop-argument.invariant
