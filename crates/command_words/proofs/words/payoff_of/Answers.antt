use Rattle.std.proofs.Common.{◌∙◌, Bor, ap, refl, sym}
use Rattle.clap.specs.Words.{Text, first_value, found_of}
use Rattle.clap.specs.Walk.{texts}
use Rattle.contract_grammar.specs.NameTexts.{is_name_text}
use Rattle.command_words.specs.Arguments.{given_text, is_set, read_rows}
use Rattle.command_words.specs.Words.{payoff_app, payoff_from, payoff_of, requested_by, with_form}
use Rattle.command_words.proofs.WordFacts.{payoff_has, payoff_lacks, payoff_no_name, handed_on, lacks, reads, refused}
use Rattle.command_words.proofs.words.payoff_of.Goals as goal

pub returns-in_err-matches : goal.returns-in_err-matches
returns-in_err-matches c =
    let words = texts c.args.words.now in
    let e = c.in_err-matches.field-0.0 in
    handed_on requested_by (payoff_of words) e c.from_residual.result
    (refused requested_by (read_rows payoff_from) payoff_app words e refl c.in_err-matches.ensures) c.from_residual.ensures.1

pub returns-in_err-portfolio : goal.returns-in_err-portfolio
returns-in_err-portfolio c =
    let words = texts c.args.words.now in
    let found = first_value (found_of c.in_ok-matches.matches) in
    let same = reads payoff_app payoff_from words c.in_ok-matches.matches c.in_ok-matches.ensures in
    let e = c.in_err-portfolio.field-0.0 in
    handed_on requested_by (payoff_of words) e c.from_residual-in_err-portfolio.result
    (lacks (λ (word : Bor Text). word.now) (given_text c.get_str.result) requested_by (payoff_of words) e
    (λ none. same ∙ payoff_lacks found (sym c.get_str.ensures ∙ none)) c.in_err-portfolio.ensures) c.from_residual-in_err-portfolio.ensures.1

pub returns-in_err-contract : goal.returns-in_err-contract
returns-in_err-contract c =
    let words = texts c.args.words.now in
    let found = first_value (found_of c.in_ok-matches.matches) in
    let same = reads payoff_app payoff_from words c.in_ok-matches.matches c.in_ok-matches.ensures in
    let e = c.in_err-contract.field-0.0 in
    handed_on requested_by (payoff_of words) e c.from_residual-in_err-contract.result
    (lacks (λ (word : Bor Text). word.now) (with_form is_name_text (given_text c.get_str-2.result)) requested_by (payoff_of words) e
    (λ none. same ∙ payoff_no_name found (ap (with_form is_name_text) (sym c.get_str-2.ensures) ∙ none)) c.in_err-contract.ensures) c.from_residual-in_err-contract.ensures.1

pub returns : goal.returns
returns c =
    let words = texts c.args.words.now in
    let found = first_value (found_of c.in_ok-matches.matches) in
    reads payoff_app payoff_from words c.in_ok-matches.matches c.in_ok-matches.ensures
    ∙ payoff_has found c.in_ok-portfolio.portfolio.now c.in_ok-contract.contract.now c.is_set.result
    (sym c.get_str.ensures ∙ c.in_ok-portfolio.ensures)
    (ap (with_form is_name_text) (sym c.get_str-2.ensures) ∙ c.in_ok-contract.ensures)
    (ap is_set (sym c.get_str-3.ensures) ∙ sym c.is_set.ensures)
