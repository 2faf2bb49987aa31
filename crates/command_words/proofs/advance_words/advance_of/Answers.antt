use Rattle.std.proofs.Common.{refl}
use Rattle.clap.specs.Walk.{texts}
use Rattle.command_words.specs.Arguments.{read_rows}
use Rattle.command_words.specs.Words.{advance_app, advance_by, advance_from, advance_of}
use Rattle.command_words.proofs.WordFacts.{answers, handed_on, reads, refused}
use Rattle.command_words.proofs.advance_words.advance_of.Goals as goal

pub returns-in_err-matches : goal.returns-in_err-matches
returns-in_err-matches c =
    let words = texts c.args.words.now in
    let e = c.in_err-matches.field-0.0 in
    handed_on advance_by (advance_of words) e c.from_residual.result
    (refused advance_by (read_rows advance_from) advance_app words e refl c.in_err-matches.ensures) c.from_residual.ensures.1

pub returns : goal.returns
returns c =
    let words = texts c.args.words.now in
    answers advance_by (advance_of words) _ c.advance_given.result
    (reads advance_app advance_from words c.in_ok-matches.matches c.in_ok-matches.ensures) c.advance_given.ensures
