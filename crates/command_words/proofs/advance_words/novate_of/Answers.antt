use Rattle.std.proofs.Common.{refl}
use Rattle.clap.specs.Walk.{texts}
use Rattle.command_words.specs.Arguments.{read_rows}
use Rattle.command_words.specs.Words.{novate_app, novate_by, novate_from, novate_of}
use Rattle.command_words.proofs.WordFacts.{answers, handed_on, reads, refused}
use Rattle.command_words.proofs.advance_words.novate_of.Goals as goal

pub returns-in_err-matches : goal.returns-in_err-matches
returns-in_err-matches c =
    let words = texts c.args.words.now in
    let e = c.in_err-matches.field-0.0 in
    handed_on novate_by (novate_of words) e c.from_residual.result
    (refused novate_by (read_rows novate_from) novate_app words e refl c.in_err-matches.ensures) c.from_residual.ensures.1

pub returns : goal.returns
returns c =
    let words = texts c.args.words.now in
    answers novate_by (novate_of words) _ c.novate_given.result
    (reads novate_app novate_from words c.in_ok-matches.matches c.in_ok-matches.ensures) c.novate_given.ensures
