use Rattle.std.proofs.Common.{◌∙◌, FitsSigned, arith, rules, sym, w64}
use Rattle.std.proofs.lemmas.Int.{to_z-of_z}
use Rattle.fixing_files.proofs.WordFacts.{day_begins}
use Rattle.fixing_files.proofs.numerals.days_at.Goals as goal

pub returns : goal.returns
returns c =
    let sign = c.sign_at-negative in
    let digits = c.digits_at-number in
    let day = c.signed_day.result in
    let fits : FitsSigned w64 day = search rules in
    λ origin. rw (to_z-of_z w64 day fits, c.signed_day.ensures)
    (day_begins origin sign.result.0 c.args.text.now sign.result.1.now c.in_ok-rest.rest.now digits.result.0 digits.result.1 sign.ensures digits.ensures.digits (omega arith) (omega arith) (omega arith) (sym c.in_ok-rest.ensures ∙ digits.ensures.rest))
