use Rattle.std.proofs.Common.{◌∙◌, Bor, ap, sym}
use Rattle.std.specs.Prelude.{Option, option_map}
use Rattle.clap.specs.Words.{Text, first_value, found_of}
use Rattle.command_words.specs.Arguments.{given_text}
use Rattle.command_words.specs.Words.{if_given, is_day, netting_by, netting_from}
use Rattle.command_words.specs.declared.day_words.DayWord.{DayWord}
use Rattle.command_words.proofs.WordFacts.{handed_on, lacks, netting_has, netting_lacks, netting_no_day}
use Rattle.command_words.proofs.netting_words.netting_given.Goals as goal

abbrev day_text : Option DayWord → Option Text
day_text day = option_map (λ (d : DayWord). d.word.now) day

pub returns-in_err-portfolio : goal.returns-in_err-portfolio
returns-in_err-portfolio c =
    let found = first_value (found_of c.args.matches.now) in
    let e = c.in_err-portfolio.field-0.0 in
    handed_on netting_by (netting_from found) e c.from_residual.result
    (lacks (λ (word : Bor Text). word.now) (given_text c.get_str.result) netting_by (netting_from found) e
    (λ none. netting_lacks found (sym c.get_str.ensures ∙ none)) c.in_err-portfolio.ensures) c.from_residual.ensures.1

pub returns-in_err-until : goal.returns-in_err-until
returns-in_err-until c =
    let found = first_value (found_of c.args.matches.now) in
    let e = c.in_err-until.field-0.0 in
    handed_on netting_by (netting_from found) e c.from_residual-in_err-until.result
    (lacks day_text (if_given is_day (given_text c.get_str-2.result)) netting_by (netting_from found) e
    (λ none. netting_no_day found (ap (if_given is_day) (sym c.get_str-2.ensures) ∙ none)) c.in_err-until.ensures) c.from_residual-in_err-until.ensures.1

pub returns : goal.returns
returns c =
    let found = first_value (found_of c.args.matches.now) in
    netting_has found c.in_ok-portfolio.portfolio.now (given_text c.get_str-3.result) (day_text c.in_ok-until.until)
    (sym c.get_str.ensures ∙ c.in_ok-portfolio.ensures)
    (sym c.get_str-3.ensures)
    (ap (if_given is_day) (sym c.get_str-2.ensures) ∙ c.in_ok-until.ensures)
