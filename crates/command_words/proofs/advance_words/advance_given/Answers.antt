use Rattle.std.proofs.Common.{◌∙◌, Bor, ap, sym}
use Rattle.clap.specs.Words.{Text, first_value, found_of}
use Rattle.command_words.specs.Arguments.{given_text}
use Rattle.command_words.specs.Words.{advance_by, advance_from, is_day, with_form}
use Rattle.command_words.specs.declared.day_words.DayWord.{DayWord}
use Rattle.command_words.proofs.WordFacts.{advance_has, advance_lacks, advance_no_day, advance_no_fixings, handed_on, lacks}
use Rattle.command_words.proofs.advance_words.advance_given.Goals as goal

pub returns-in_err-portfolio : goal.returns-in_err-portfolio
returns-in_err-portfolio c =
    let found = first_value (found_of c.args.matches.now) in
    let e = c.in_err-portfolio.field-0.0 in
    handed_on advance_by (advance_from found) e c.from_residual.result
    (lacks (λ (word : Bor Text). word.now) (given_text c.get_str.result) advance_by (advance_from found) e
    (λ none. advance_lacks found (sym c.get_str.ensures ∙ none)) c.in_err-portfolio.ensures) c.from_residual.ensures.1

pub returns-in_err-fixings : goal.returns-in_err-fixings
returns-in_err-fixings c =
    let found = first_value (found_of c.args.matches.now) in
    let e = c.in_err-fixings.field-0.0 in
    handed_on advance_by (advance_from found) e c.from_residual-in_err-fixings.result
    (lacks (λ (word : Bor Text). word.now) (given_text c.get_str-2.result) advance_by (advance_from found) e
    (λ none. advance_no_fixings found (sym c.get_str-2.ensures ∙ none)) c.in_err-fixings.ensures) c.from_residual-in_err-fixings.ensures.1

pub returns-in_err-to : goal.returns-in_err-to
returns-in_err-to c =
    let found = first_value (found_of c.args.matches.now) in
    let e = c.in_err-to.field-0.0 in
    handed_on advance_by (advance_from found) e c.from_residual-in_err-to.result
    (lacks (λ (day : DayWord). day.word.now) (with_form is_day (given_text c.get_str-3.result)) advance_by (advance_from found) e
    (λ none. advance_no_day found (ap (with_form is_day) (sym c.get_str-3.ensures) ∙ none)) c.in_err-to.ensures) c.from_residual-in_err-to.ensures.1

pub returns : goal.returns
returns c =
    let found = first_value (found_of c.args.matches.now) in
    advance_has found c.in_ok-portfolio.portfolio.now c.in_ok-fixings.fixings.now c.in_ok-to.to.word.now
    (sym c.get_str.ensures ∙ c.in_ok-portfolio.ensures)
    (sym c.get_str-2.ensures ∙ c.in_ok-fixings.ensures)
    (ap (with_form is_day) (sym c.get_str-3.ensures) ∙ c.in_ok-to.ensures)
