use Rattle.std.proofs.Common.{◌∙◌, Bor, ap, refl, sym}
use Rattle.std.specs.Prelude.{Option, option_map}
use Rattle.clap.specs.Words.{Text, first_value, found_of}
use Rattle.clap.specs.Walk.{texts}
use Rattle.contract_grammar.specs.NameTexts.{is_name_text}
use Rattle.command_words.specs.Arguments.{given_text, is_set, read_rows}
use Rattle.command_words.specs.Words.{requested_by, flows_app, flows_from, flows_of, if_given, is_day}
use Rattle.command_words.specs.declared.day_words.DayWord.{DayWord}
use Rattle.command_words.proofs.WordFacts.{flows_has, flows_lacks, flows_no_day, flows_no_name, handed_on, lacks, reads, refused}
use Rattle.command_words.proofs.words.flows_of.Goals as goal

abbrev day_text : Option DayWord → Option Text
day_text day = option_map (λ (d : DayWord). d.word.now) day

pub returns-in_err-matches : goal.returns-in_err-matches
returns-in_err-matches c =
    let words = texts c.args.words.now in
    let e = c.in_err-matches.field-0.0 in
    handed_on requested_by (flows_of words) e c.from_residual.result
    (refused requested_by (read_rows flows_from) flows_app words e refl c.in_err-matches.ensures) c.from_residual.ensures.1

pub returns-in_err-portfolio : goal.returns-in_err-portfolio
returns-in_err-portfolio c =
    let words = texts c.args.words.now in
    let found = first_value (found_of c.in_ok-matches.matches) in
    let same = reads flows_app flows_from words c.in_ok-matches.matches c.in_ok-matches.ensures in
    let e = c.in_err-portfolio.field-0.0 in
    handed_on requested_by (flows_of words) e c.from_residual-in_err-portfolio.result
    (lacks (λ (word : Bor Text). word.now) (given_text c.get_str.result) requested_by (flows_of words) e
    (λ none. same ∙ flows_lacks found (sym c.get_str.ensures ∙ none)) c.in_err-portfolio.ensures) c.from_residual-in_err-portfolio.ensures.1

pub returns-in_err-until : goal.returns-in_err-until
returns-in_err-until c =
    let words = texts c.args.words.now in
    let found = first_value (found_of c.in_ok-matches.matches) in
    let same = reads flows_app flows_from words c.in_ok-matches.matches c.in_ok-matches.ensures in
    let e = c.in_err-until.field-0.0 in
    handed_on requested_by (flows_of words) e c.from_residual-in_err-until.result
    (lacks day_text (if_given is_day (given_text c.get_str-2.result)) requested_by (flows_of words) e
    (λ none. same ∙ flows_no_day found (ap (if_given is_day) (sym c.get_str-2.ensures) ∙ none)) c.in_err-until.ensures) c.from_residual-in_err-until.ensures.1

pub returns-in_err-contract : goal.returns-in_err-contract
returns-in_err-contract c =
    let words = texts c.args.words.now in
    let found = first_value (found_of c.in_ok-matches.matches) in
    let same = reads flows_app flows_from words c.in_ok-matches.matches c.in_ok-matches.ensures in
    let e = c.in_err-contract.field-0.0 in
    handed_on requested_by (flows_of words) e c.from_residual-in_err-contract.result
    (lacks given_text (if_given is_name_text (given_text c.get_str-3.result)) requested_by (flows_of words) e
    (λ none. same ∙ flows_no_name found (ap (if_given is_name_text) (sym c.get_str-3.ensures) ∙ none)) c.in_err-contract.ensures) c.from_residual-in_err-contract.ensures.1

pub returns : goal.returns
returns c =
    let words = texts c.args.words.now in
    let found = first_value (found_of c.in_ok-matches.matches) in
    reads flows_app flows_from words c.in_ok-matches.matches c.in_ok-matches.ensures
    ∙ flows_has found c.in_ok-portfolio.portfolio.now (given_text c.get_str-4.result) (day_text c.in_ok-until.until) (given_text c.in_ok-contract.contract) c.is_set.result
    (sym c.get_str.ensures ∙ c.in_ok-portfolio.ensures)
    (sym c.get_str-4.ensures)
    (ap (if_given is_day) (sym c.get_str-2.ensures) ∙ c.in_ok-until.ensures)
    (ap (if_given is_name_text) (sym c.get_str-3.ensures) ∙ c.in_ok-contract.ensures)
    (ap is_set (sym c.get_str-5.ensures) ∙ sym c.is_set.ensures)
