use Rattle.std.proofs.Common.{◌∙◌, ◌-◌, Bor, Err, List, [], ap, codes, drop, get_or, length, take}
use Rattle.std.specs.Prelude.{Option, option_map}
use Rattle.clap.specs.Walk.{texts}
use Rattle.clap.specs.Words.{Text}
use Rattle.command_words.specs.Commands.{Advance, AdvanceAsked, NettingAsked, Novate, NovateAsked, Request, Settle}
use Rattle.command_words.specs.Words.{advance_by, advance_of, migrate_of, netting_by, netting_of, novate_by, novate_of, other_request_of, payoff_of, request_of, requested_by}
use Rattle.command_words.proofs.WordFacts.{advance_asked, answers, first_word, handed_on, migrate_asked, novate_asked, other_asked, payoff_asked, requests_none, settle_asked}
use Rattle.command_words.proofs.words.request_of.Goals as goal

abbrev nothing : Bor Text
nothing = record { ref_ptr = (0, 0); now = [] }

-- the words behind the first
abbrev behind : List (Bor Text) → List (Bor Text)
behind words = take (length words - 1) (drop 1 words)

pub returns-then-eq-3 : goal.returns-then-eq-3
returns-then-eq-3 c =
    let words = c.args.words.now in
    answers requested_by (request_of (texts words)) (payoff_of (texts (behind words))) c.payoff_of.result
    (ap request_of (first_word words nothing c.in-len1-up.len_at_least)
    ∙ payoff_asked (get_or words 0 nothing).now (texts (behind words)) c.if-eq.ensures c.if-eq-2.ensures c.if-eq-3.ensures) c.payoff_of.ensures

pub returns-then-eq-4 : goal.returns-then-eq-4
returns-then-eq-4 c =
    let words = c.args.words.now in
    answers requested_by (request_of (texts words)) (migrate_of (texts (behind words))) c.migrate_of.result
    (ap request_of (first_word words nothing c.in-len1-up.len_at_least)
    ∙ migrate_asked (get_or words 0 nothing).now (texts (behind words)) c.if-eq.ensures c.if-eq-2.ensures c.if-eq-3.ensures c.if-eq-4.ensures) c.migrate_of.ensures

pub returns-in_err-netting-2 : goal.returns-in_err-netting-2
returns-in_err-netting-2 c =
    let words = c.args.words.now in
    let asked = netting_of (codes "settle") (texts (behind words)) in
    let e = c.in_err-netting-2.field-0.0 in
    handed_on requested_by (request_of (texts words)) e c.from_residual-in_err-netting-2.result
    (answers requested_by (request_of (texts words)) (option_map (λ x. Settle x) asked) (Err e)
    (ap request_of (first_word words nothing c.in-len1-up.len_at_least)
    ∙ settle_asked (get_or words 0 nothing).now (texts (behind words)) c.if-eq.ensures c.if-eq-2.ensures c.if-eq-3.ensures c.if-eq-4.ensures c.if-eq-5.ensures c.if-eq-6.ensures)
    (requests_none netting_by requested_by (λ x. Settle x) asked e c.in_err-netting-2.ensures)) c.from_residual-in_err-netting-2.ensures.1

pub returns-in_ok-netting-2 : goal.returns-in_ok-netting-2
returns-in_ok-netting-2 c =
    let words = c.args.words.now in
    ap request_of (first_word words nothing c.in-len1-up.len_at_least)
    ∙ settle_asked (get_or words 0 nothing).now (texts (behind words)) c.if-eq.ensures c.if-eq-2.ensures c.if-eq-3.ensures c.if-eq-4.ensures c.if-eq-5.ensures c.if-eq-6.ensures
    ∙ ap (λ (asked : Option NettingAsked). option_map (λ x. Settle x) asked) c.in_ok-netting-2.ensures

pub returns-in_err-advance : goal.returns-in_err-advance
returns-in_err-advance c =
    let words = c.args.words.now in
    let asked = advance_of (texts (behind words)) in
    let e = c.in_err-advance.field-0.0 in
    handed_on requested_by (request_of (texts words)) e c.from_residual-in_err-advance.result
    (answers requested_by (request_of (texts words)) (option_map (λ x. Advance x) asked) (Err e)
    (ap request_of (first_word words nothing c.in-len1-up.len_at_least)
    ∙ advance_asked (get_or words 0 nothing).now (texts (behind words)) c.if-eq.ensures c.if-eq-2.ensures c.if-eq-3.ensures c.if-eq-4.ensures c.if-eq-5.ensures c.if-eq-6.ensures c.if-eq-7.ensures)
    (requests_none advance_by requested_by (λ x. Advance x) asked e c.in_err-advance.ensures)) c.from_residual-in_err-advance.ensures.1

pub returns-in_ok-advance : goal.returns-in_ok-advance
returns-in_ok-advance c =
    let words = c.args.words.now in
    ap request_of (first_word words nothing c.in-len1-up.len_at_least)
    ∙ advance_asked (get_or words 0 nothing).now (texts (behind words)) c.if-eq.ensures c.if-eq-2.ensures c.if-eq-3.ensures c.if-eq-4.ensures c.if-eq-5.ensures c.if-eq-6.ensures c.if-eq-7.ensures
    ∙ ap (λ (asked : Option AdvanceAsked). option_map (λ x. Advance x) asked) c.in_ok-advance.ensures

pub returns-in_err-novate : goal.returns-in_err-novate
returns-in_err-novate c =
    let words = c.args.words.now in
    let asked = novate_of (texts (behind words)) in
    let e = c.in_err-novate.field-0.0 in
    handed_on requested_by (request_of (texts words)) e c.from_residual-in_err-novate.result
    (answers requested_by (request_of (texts words)) (option_map (λ x. Novate x) asked) (Err e)
    (ap request_of (first_word words nothing c.in-len1-up.len_at_least)
    ∙ novate_asked (get_or words 0 nothing).now (texts (behind words)) c.if-eq.ensures c.if-eq-2.ensures c.if-eq-3.ensures c.if-eq-4.ensures c.if-eq-5.ensures c.if-eq-6.ensures c.if-eq-7.ensures c.if-eq-8.ensures)
    (requests_none novate_by requested_by (λ x. Novate x) asked e c.in_err-novate.ensures)) c.from_residual-in_err-novate.ensures.1

pub returns-in_ok-novate : goal.returns-in_ok-novate
returns-in_ok-novate c =
    let words = c.args.words.now in
    ap request_of (first_word words nothing c.in-len1-up.len_at_least)
    ∙ novate_asked (get_or words 0 nothing).now (texts (behind words)) c.if-eq.ensures c.if-eq-2.ensures c.if-eq-3.ensures c.if-eq-4.ensures c.if-eq-5.ensures c.if-eq-6.ensures c.if-eq-7.ensures c.if-eq-8.ensures
    ∙ ap (λ (asked : Option NovateAsked). option_map (λ x. Novate x) asked) c.in_ok-novate.ensures

pub returns-else-eq-8 : goal.returns-else-eq-8
returns-else-eq-8 c =
    let words = c.args.words.now in
    answers requested_by (request_of (texts words)) (other_request_of (get_or words 0 nothing).now (texts (behind words))) c.other_request_of.result
    (ap request_of (first_word words nothing c.in-len1-up.len_at_least)
    ∙ other_asked (get_or words 0 nothing).now (texts (behind words)) c.if-eq.ensures c.if-eq-2.ensures c.if-eq-3.ensures c.if-eq-4.ensures c.if-eq-5.ensures c.if-eq-6.ensures c.if-eq-7.ensures c.if-eq-8.ensures) c.other_request_of.ensures
