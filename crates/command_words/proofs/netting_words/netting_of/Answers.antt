use Rattle.std.proofs.Common.{refl}
use Rattle.clap.specs.Walk.{texts}
use Rattle.command_words.specs.Arguments.{read_rows}
use Rattle.command_words.specs.Words.{netting_app, netting_by, netting_from, netting_of}
use Rattle.command_words.proofs.WordFacts.{answers, handed_on, reads, refused}
use Rattle.command_words.proofs.netting_words.netting_of.Goals as goal

pub returns-in_err-matches : goal.returns-in_err-matches
returns-in_err-matches c =
    let words = texts c.args.words.now in
    let e = c.in_err-matches.field-0.0 in
    handed_on netting_by (netting_of c.args.name.now words) e c.from_residual.result
    (refused netting_by (read_rows netting_from) (netting_app c.args.name.now) words e refl c.in_err-matches.ensures) c.from_residual.ensures.1

pub returns : goal.returns
returns c =
    let words = texts c.args.words.now in
    answers netting_by (netting_of c.args.name.now words) _ c.netting_given.result
    (reads (netting_app c.args.name.now) netting_from words c.in_ok-matches.matches c.in_ok-matches.ensures) c.netting_given.ensures
