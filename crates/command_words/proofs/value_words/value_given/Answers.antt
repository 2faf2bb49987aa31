use Rattle.std.proofs.Common.{◌∙◌, ℕ, ap, sym}
use Rattle.std.specs.declared.random_state.RandomState.{RandomState}
use Rattle.indexmap.specs.IndexMap.{IndexMap}
use Rattle.clap.specs.Words.{Text, first_value, found_of}
use Rattle.command_words.specs.Arguments.{all_values, given_text, given_texts}
use Rattle.command_words.specs.Words.{between_by, files_by, is_day, settings_of, value_between, value_by, value_files, value_from, with_form}
use Rattle.command_words.specs.declared.day_words.DayWord.{DayWord}
use Rattle.command_words.proofs.WordFacts.{handed_on, lacks, value_has, value_no_day, value_no_files, value_no_setting, value_nobody}
use Rattle.command_words.proofs.value_words.value_given.Goals as goal

pub returns-in_err-files : goal.returns-in_err-files
returns-in_err-files c =
    let word = first_value (found_of c.args.matches.now) in
    let all = all_values (found_of c.args.matches.now) in
    let e = c.in_err-files.field-0.0 in
    handed_on value_by (value_from word all) e c.from_residual.result
    (lacks files_by (value_files word) value_by (value_from word all) e (value_no_files word all) c.in_err-files.ensures) c.from_residual.ensures.1

pub returns-in_err-at : goal.returns-in_err-at
returns-in_err-at c =
    let word = first_value (found_of c.args.matches.now) in
    let all = all_values (found_of c.args.matches.now) in
    let e = c.in_err-at.field-0.0 in
    handed_on value_by (value_from word all) e c.from_residual-in_err-at.result
    (lacks (λ (day : DayWord). day.word.now) (with_form is_day (given_text c.get_str.result)) value_by (value_from word all) e
    (λ none. value_no_day word all (ap (with_form is_day) (sym c.get_str.ensures) ∙ none)) c.in_err-at.ensures) c.from_residual-in_err-at.ensures.1

pub returns-in_err-between : goal.returns-in_err-between
returns-in_err-between c =
    let word = first_value (found_of c.args.matches.now) in
    let all = all_values (found_of c.args.matches.now) in
    let e = c.in_err-between.field-0.0 in
    handed_on value_by (value_from word all) e c.from_residual-in_err-between.result
    (lacks between_by (value_between word) value_by (value_from word all) e (value_nobody word all) c.in_err-between.ensures) c.from_residual-in_err-between.ensures.1

pub returns-in_err-settings : goal.returns-in_err-settings
returns-in_err-settings c =
    let word = first_value (found_of c.args.matches.now) in
    let all = all_values (found_of c.args.matches.now) in
    let e = c.in_err-settings.field-0.0 in
    handed_on value_by (value_from word all) e c.from_residual-in_err-settings.result
    (lacks (λ (settings : IndexMap Text ℕ RandomState). settings.entries) (settings_of (given_texts c.get_strs.result)) value_by (value_from word all) e
    (λ none. value_no_setting word all (ap settings_of (sym c.get_strs.ensures) ∙ none)) c.in_err-settings.ensures.answer) c.from_residual-in_err-settings.ensures.1

pub returns : goal.returns
returns c =
    let word = first_value (found_of c.args.matches.now) in
    let all = all_values (found_of c.args.matches.now) in
    value_has word all (files_by c.in_ok-files.files) c.in_ok-at.at.word.now (between_by c.in_ok-between.between) c.in_ok-settings.settings.entries
    c.in_ok-files.ensures
    (ap (with_form is_day) (sym c.get_str.ensures) ∙ c.in_ok-at.ensures)
    c.in_ok-between.ensures
    (ap settings_of (sym c.get_strs.ensures) ∙ c.in_ok-settings.ensures.answer)
