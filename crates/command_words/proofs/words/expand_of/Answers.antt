use Rattle.std.proofs.Common.{◌∙◌, Bor, refl, sym}
use Rattle.clap.specs.Words.{Text, first_value, found_of}
use Rattle.clap.specs.Walk.{texts}
use Rattle.command_words.specs.Arguments.{given_text, read_rows}
use Rattle.command_words.specs.Words.{expand_app, expand_from, expand_of, requested_by}
use Rattle.command_words.proofs.WordFacts.{expand_has, expand_lacks, handed_on, lacks, reads, refused}
use Rattle.command_words.proofs.words.expand_of.Goals as goal

pub returns-in_err-matches : goal.returns-in_err-matches
returns-in_err-matches c =
    let words = texts c.args.words.now in
    let e = c.in_err-matches.field-0.0 in
    handed_on requested_by (expand_of words) e c.from_residual.result
    (refused requested_by (read_rows expand_from) expand_app words e refl c.in_err-matches.ensures) c.from_residual.ensures.1

pub returns-in_err-plans : goal.returns-in_err-plans
returns-in_err-plans c =
    let words = texts c.args.words.now in
    let found = first_value (found_of c.in_ok-matches.matches) in
    let same = reads expand_app expand_from words c.in_ok-matches.matches c.in_ok-matches.ensures in
    let e = c.in_err-plans.field-0.0 in
    handed_on requested_by (expand_of words) e c.from_residual-in_err-plans.result
    (lacks (λ (word : Bor Text). word.now) (given_text c.get_str.result) requested_by (expand_of words) e
    (λ none. same ∙ expand_lacks found (sym c.get_str.ensures ∙ none)) c.in_err-plans.ensures) c.from_residual-in_err-plans.ensures.1

pub returns : goal.returns
returns c =
    let words = texts c.args.words.now in
    let found = first_value (found_of c.in_ok-matches.matches) in
    reads expand_app expand_from words c.in_ok-matches.matches c.in_ok-matches.ensures ∙ expand_has found c.in_ok-plans.plans.now (sym c.get_str.ensures ∙ c.in_ok-plans.ensures)
