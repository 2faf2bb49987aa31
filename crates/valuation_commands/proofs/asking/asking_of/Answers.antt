use Rattle.std.proofs.Common.{◌≡◌, ℕ, List, inl, inr, of_z, subst, to_z, w64}
use Rattle.std.specs.Int.{w128}
use Rattle.std.proofs.lemmas.Int.{to_z-of_z}
use Rattle.payoff_terms.specs.CodeBooks.{code_book}
use Rattle.command_words.specs.Words.{value_by}
use Rattle.command_courses.specs.Days.{IsDayAsked, greatest_day}
use Rattle.valuation_commands.specs.ValueStages.{IsRefusedCode}
use Rattle.command_courses.specs.Days.{IsWordFault}
use Rattle.valuation_commands.specs.ValueParts.{IsAcceptedUpTo, IsAskedBy, StopsAsking, flow_of}
use Rattle.command_courses.proofs.DayFacts.{asked_first, fits_day}
use Rattle.command_courses.proofs.StopFacts.{handed_on}
use Rattle.valuation_commands.proofs.ValueParts.{is_asked, most_fits}
use Rattle.valuation_commands.proofs.asking.asking_of.Goals as goal

pub returns-in_err-day : goal.returns-in_err-day
returns-in_err-day c =
    let b = code_book c.args.file.now in
    let asked = value_by c.args.value.now in
    handed_on (IsDayAsked b.declarations greatest_day asked.at) (IsAskedBy asked c.args.file.now) (IsWordFault b.declarations greatest_day asked.at) (StopsAsking asked b)
    (λ f h. inr (flow_of c.in_ok-parties.parties, c.in_ok-parties.ensures, inl h)) c.in_err-day.field-0.0 c.from_residual-in_err-day.result c.in_err-day.ensures c.from_residual-in_err-day.ensures.1

pub returns-in_err-most : goal.returns-in_err-most
returns-in_err-most c =
    let b = code_book c.args.file.now in
    let asked = value_by c.args.value.now in
    let xs = c.in_ok-setting.setting.days.items in
    handed_on (IsAcceptedUpTo b xs) (IsAskedBy asked c.args.file.now) (IsRefusedCode b xs) (StopsAsking asked b)
    (λ f h. inr (flow_of c.in_ok-parties.parties, c.in_ok-parties.ensures, inr (c.in_ok-day.day, c.in_ok-day.ensures, inl (subst (λ (ys : List ℕ). IsRefusedCode b ys f) c.in_ok-setting.ensures h)))) c.in_err-most.field-0.0 c.from_residual-in_err-most.result c.in_err-most.ensures c.from_residual-in_err-most.ensures.1

pub returns : goal.returns
returns c =
    let file = c.args.file.now in
    let b = code_book file in
    let asked = value_by c.args.value.now in
    let day = c.in_ok-day.day in
    let most = c.in_ok-most.most in
    let day_is : to_z w64 (of_z w64 day) ≡ day = to_z-of_z w64 day (fits_day day (asked_first b.declarations greatest_day asked.at day c.in_ok-day.ensures) c.in_ok-day.ensures.2) in
    let most_is : to_z w128 (of_z w128 most) ≡ most = to_z-of_z w128 most (most_fits b c.in_ok-setting.setting.days.items most c.in_ok-most.ensures) in
    is_asked asked file _ day most day_is most_is c.in_ok-parties.ensures c.in_ok-day.ensures c.in_ok-setting.ensures c.in_ok-most.ensures
