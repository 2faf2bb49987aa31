use Rattle.std.proofs.Common.{◌∙◌, Bor, ap, sym}
use Rattle.clap.specs.Words.{Text, first_value, found_of}
use Rattle.contract_grammar.specs.NameTexts.{is_name_text}
use Rattle.command_words.specs.Arguments.{given_text}
use Rattle.command_words.specs.Words.{advance_by, advance_from, novate_by, novate_from, with_form}
use Rattle.command_words.proofs.WordFacts.{handed_on, lacks, novate_has, novate_no_advance, novate_no_contract, novate_no_new, novate_no_old}
use Rattle.command_words.proofs.advance_words.novate_given.Goals as goal

pub returns-in_err-advance : goal.returns-in_err-advance
returns-in_err-advance c =
    let found = first_value (found_of c.args.matches.now) in
    let e = c.in_err-advance.field-0.0 in
    handed_on novate_by (novate_from found) e c.from_residual.result
    (lacks advance_by (advance_from found) novate_by (novate_from found) e (novate_no_advance found) c.in_err-advance.ensures) c.from_residual.ensures.1

pub returns-in_err-contract : goal.returns-in_err-contract
returns-in_err-contract c =
    let found = first_value (found_of c.args.matches.now) in
    let e = c.in_err-contract.field-0.0 in
    handed_on novate_by (novate_from found) e c.from_residual-in_err-contract.result
    (lacks (λ (word : Bor Text). word.now) (with_form is_name_text (given_text c.get_str.result)) novate_by (novate_from found) e
    (λ none. novate_no_contract found (ap (with_form is_name_text) (sym c.get_str.ensures) ∙ none)) c.in_err-contract.ensures) c.from_residual-in_err-contract.ensures.1

pub returns-in_err-old : goal.returns-in_err-old
returns-in_err-old c =
    let found = first_value (found_of c.args.matches.now) in
    let e = c.in_err-old.field-0.0 in
    handed_on novate_by (novate_from found) e c.from_residual-in_err-old.result
    (lacks (λ (word : Bor Text). word.now) (with_form is_name_text (given_text c.get_str-2.result)) novate_by (novate_from found) e
    (λ none. novate_no_old found (ap (with_form is_name_text) (sym c.get_str-2.ensures) ∙ none)) c.in_err-old.ensures) c.from_residual-in_err-old.ensures.1

pub returns-in_err-new : goal.returns-in_err-new
returns-in_err-new c =
    let found = first_value (found_of c.args.matches.now) in
    let e = c.in_err-new.field-0.0 in
    handed_on novate_by (novate_from found) e c.from_residual-in_err-new.result
    (lacks (λ (word : Bor Text). word.now) (with_form is_name_text (given_text c.get_str-3.result)) novate_by (novate_from found) e
    (λ none. novate_no_new found (ap (with_form is_name_text) (sym c.get_str-3.ensures) ∙ none)) c.in_err-new.ensures) c.from_residual-in_err-new.ensures.1

pub returns : goal.returns
returns c =
    let found = first_value (found_of c.args.matches.now) in
    novate_has found (advance_by c.in_ok-advance.advance) c.in_ok-contract.contract.now c.in_ok-old.old.now c.in_ok-new.new.now
    c.in_ok-advance.ensures
    (ap (with_form is_name_text) (sym c.get_str.ensures) ∙ c.in_ok-contract.ensures)
    (ap (with_form is_name_text) (sym c.get_str-2.ensures) ∙ c.in_ok-old.ensures)
    (ap (with_form is_name_text) (sym c.get_str-3.ensures) ∙ c.in_ok-new.ensures)
