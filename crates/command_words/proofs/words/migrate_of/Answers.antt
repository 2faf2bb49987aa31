use Rattle.std.proofs.Common.{◌∙◌, Bor, refl, sym}
use Rattle.clap.specs.Words.{Text, first_value, found_of}
use Rattle.clap.specs.Walk.{texts}
use Rattle.command_words.specs.Arguments.{given_text, read_rows}
use Rattle.command_words.specs.Words.{requested_by, migrate_app, migrate_from, migrate_of}
use Rattle.command_words.proofs.WordFacts.{migrate_has, migrate_lacks, handed_on, lacks, reads, refused}
use Rattle.command_words.proofs.words.migrate_of.Goals as goal

pub returns-in_err-matches : goal.returns-in_err-matches
returns-in_err-matches c =
    let words = texts c.args.words.now in
    let e = c.in_err-matches.field-0.0 in
    handed_on requested_by (migrate_of words) e c.from_residual.result
    (refused requested_by (read_rows migrate_from) migrate_app words e refl c.in_err-matches.ensures) c.from_residual.ensures.1

pub returns-in_err-portfolio : goal.returns-in_err-portfolio
returns-in_err-portfolio c =
    let words = texts c.args.words.now in
    let found = first_value (found_of c.in_ok-matches.matches) in
    let same = reads migrate_app migrate_from words c.in_ok-matches.matches c.in_ok-matches.ensures in
    let e = c.in_err-portfolio.field-0.0 in
    handed_on requested_by (migrate_of words) e c.from_residual-in_err-portfolio.result
    (lacks (λ (word : Bor Text). word.now) (given_text c.get_str.result) requested_by (migrate_of words) e
    (λ none. same ∙ migrate_lacks found (sym c.get_str.ensures ∙ none)) c.in_err-portfolio.ensures) c.from_residual-in_err-portfolio.ensures.1

pub returns : goal.returns
returns c =
    let words = texts c.args.words.now in
    let found = first_value (found_of c.in_ok-matches.matches) in
    reads migrate_app migrate_from words c.in_ok-matches.matches c.in_ok-matches.ensures ∙ migrate_has found c.in_ok-portfolio.portfolio.now (sym c.get_str.ensures ∙ c.in_ok-portfolio.ensures)
