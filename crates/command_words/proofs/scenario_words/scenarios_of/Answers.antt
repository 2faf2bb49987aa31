use Rattle.std.proofs.Common.{◌∙◌, ap, refl, sym}
use Rattle.clap.specs.Words.{first_value, found_of}
use Rattle.clap.specs.Walk.{texts}
use Rattle.decimal.specs.declared.rounding.Mode.{Mode}
use Rattle.command_words.specs.Arguments.{all_values, given_text}
use Rattle.command_words.specs.Words.{mode_if_given, read_all_rows, scenarios_app, scenarios_by, scenarios_from, scenarios_of, value_by, value_from}
use Rattle.command_words.proofs.WordFacts.{handed_on, lacks, reads_all, refused, scenarios_has, scenarios_no_mean, scenarios_no_value}
use Rattle.command_words.proofs.scenario_words.scenarios_of.Goals as goal

pub returns-in_err-matches : goal.returns-in_err-matches
returns-in_err-matches c =
    let words = texts c.args.words.now in
    let e = c.in_err-matches.field-0.0 in
    handed_on scenarios_by (scenarios_of words) e c.from_residual.result
    (refused scenarios_by (read_all_rows scenarios_from) scenarios_app words e refl c.in_err-matches.ensures) c.from_residual.ensures.1

pub returns-in_err-value : goal.returns-in_err-value
returns-in_err-value c =
    let words = texts c.args.words.now in
    let word = first_value (found_of c.in_ok-matches.matches) in
    let all = all_values (found_of c.in_ok-matches.matches) in
    let same = reads_all scenarios_app scenarios_from words c.in_ok-matches.matches c.in_ok-matches.ensures in
    let e = c.in_err-value.field-0.0 in
    handed_on scenarios_by (scenarios_of words) e c.from_residual-in_err-value.result
    (lacks value_by (value_from word all) scenarios_by (scenarios_of words) e
    (λ none. same ∙ scenarios_no_value word all none) c.in_err-value.ensures) c.from_residual-in_err-value.ensures.1

pub returns-in_err-mean : goal.returns-in_err-mean
returns-in_err-mean c =
    let words = texts c.args.words.now in
    let word = first_value (found_of c.in_ok-matches.matches) in
    let all = all_values (found_of c.in_ok-matches.matches) in
    let same = reads_all scenarios_app scenarios_from words c.in_ok-matches.matches c.in_ok-matches.ensures in
    let e = c.in_err-mean.field-0.0 in
    handed_on scenarios_by (scenarios_of words) e c.from_residual-in_err-mean.result
    (lacks (λ (mode : Mode). mode) (mode_if_given (given_text c.get_str.result)) scenarios_by (scenarios_of words) e
    (λ none. same ∙ scenarios_no_mean word all (ap mode_if_given (sym c.get_str.ensures) ∙ none)) c.in_err-mean.ensures) c.from_residual-in_err-mean.ensures.1

pub returns : goal.returns
returns c =
    let words = texts c.args.words.now in
    let word = first_value (found_of c.in_ok-matches.matches) in
    let all = all_values (found_of c.in_ok-matches.matches) in
    reads_all scenarios_app scenarios_from words c.in_ok-matches.matches c.in_ok-matches.ensures
    ∙ scenarios_has word all (value_by c.in_ok-value.value) c.in_ok-mean.mean
    c.in_ok-value.ensures
    (ap mode_if_given (sym c.get_str.ensures) ∙ c.in_ok-mean.ensures)
