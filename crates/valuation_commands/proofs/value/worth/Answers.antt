use Rattle.std.proofs.Common.{◌≡◌, ℤ, arith, of_z, subst, sym, to_z, w64}
use Rattle.std.specs.Prelude.{Some}
use Rattle.std.proofs.lemmas.Int.{ints, to_z-of_z}
use Rattle.term_model.specs.Declarations.{declarations}
use Rattle.expr_eval.specs.Standing.{place_of}
use Rattle.payoff_terms.specs.Code.{payoff_code}
use Rattle.payoff_eval.specs.Questions.{IsQuestion, asked_on}
use Rattle.payoff_eval.proofs.NodeFacts.{height_of_accepted}
use Rattle.valuation_commands.specs.ValuePromise.{missing_of_code}
use Rattle.valuation_commands.specs.ValueParts.{inquiry_of}
use Rattle.command_courses.proofs.DayFacts.{fits_day}
use Rattle.valuation_commands.proofs.ValueParts.{without_value}
use Rattle.valuation_commands.proofs.value.worth.Goals as goal

pub value-requires-clause-code : goal.value-requires-clause-code
value-requires-clause-code c =
    record { setting = c.requires.asks.setting; closed = c.requires.readable.closed; accepted = c.requires.asks.accepted }

pub value-requires-clause-question : goal.value-requires-clause-question
value-requires-clause-question c =
    let d = declarations c.args.file.now.decls in
    let p = c.args.asking.now.parties in
    let day = c.args.asking.now.day in
    let curve = c.args.curve.now in
    let h = c.requires.asks.is_question curve in
    let same : to_z w64 (of_z w64 day) ≡ day = to_z-of_z w64 day (fits_day day (let low = h.begun in omega (arith, ints)) h.near) in
    subst (λ (t : ℤ). IsQuestion d (asked_on curve t p.from p.to p.asset)) (sym same) h

pub value-requires-clause-room : goal.value-requires-clause-room
value-requires-clause-room c =
    let d = declarations c.args.file.now.decls in
    let low = height_of_accepted d c.args.asking.now.setting.days.items (payoff_code c.args.file.now.code) c.requires.asks.accepted in
    omega (arith, low, c.in_ok-scratch.ensures)

pub returns : goal.returns
returns c =
    let q = inquiry_of c.args.file.now c.args.asking.now in
    let d = declarations c.args.file.now.decls in
    let p = c.args.asking.now.parties in
    let day = c.args.asking.now.day in
    let curve = c.args.curve.now in
    let fixings = c.args.fixings.now in
    let h = c.requires.asks.is_question curve in
    let same : to_z w64 (of_z w64 day) ≡ day = to_z-of_z w64 day (fits_day day (let low = h.begun in omega (arith, ints)) h.near) in
    let told : Some (place_of c.in-Err.missing) ≡ missing_of_code d (payoff_code c.args.file.now.code) c.args.asking.now.setting.days.items fixings (asked_on curve (to_z w64 (of_z w64 day)) p.from p.to p.asset) = c.in-Err.ensures.answer.value.missing in
    let here = subst (λ (t : ℤ). Some (place_of c.in-Err.missing) ≡ missing_of_code d (payoff_code c.args.file.now.code) c.args.asking.now.setting.days.items fixings (asked_on curve t p.from p.to p.asset)) same told in
    without_value q fixings curve c.in-Err.missing.label c.in-Err.missing.day c.stop_of_missing.result (sym here) c.stop_of_missing.ensures
