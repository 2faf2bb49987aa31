use Rattle.std.proofs.Common.{refl}
use Rattle.clap.specs.Walk.{texts}
use Rattle.command_words.specs.Words.{read_all_rows, value_app, value_by, value_from, value_of}
use Rattle.command_words.proofs.WordFacts.{answers, handed_on, reads_all, refused}
use Rattle.command_words.proofs.value_words.value_of.Goals as goal

pub returns-in_err-matches : goal.returns-in_err-matches
returns-in_err-matches c =
    let words = texts c.args.words.now in
    let e = c.in_err-matches.field-0.0 in
    handed_on value_by (value_of words) e c.from_residual.result
    (refused value_by (read_all_rows value_from) value_app words e refl c.in_err-matches.ensures) c.from_residual.ensures.1

pub returns : goal.returns
returns c =
    let words = texts c.args.words.now in
    answers value_by (value_of words) _ c.value_given.result
    (reads_all value_app value_from words c.in_ok-matches.matches c.in_ok-matches.ensures) c.value_given.ensures
