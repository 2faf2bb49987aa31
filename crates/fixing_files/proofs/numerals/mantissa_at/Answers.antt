use Rattle.std.proofs.Common.{◌∙◌, FitsSigned, arith, rules, sym}
use Rattle.std.specs.Int.{w128}
use Rattle.std.proofs.lemmas.Int.{to_z-of_z}
use Rattle.fixing_files.proofs.WordFacts.{pointed_begins, whole_begins}
use Rattle.fixing_files.proofs.numerals.mantissa_at.Goals as goal

pub returns-in_default : goal.returns-in_default
returns-in_default c =
    let sign = c.sign_at-negative in
    let whole = c.digits_at-whole in
    let mant = c.mantissa_of.result in
    let fits : FitsSigned w128 mant = search rules in
    rw (to_z-of_z w128 mant fits, c.mantissa_of.ensures)
    (whole_begins sign.result.0 c.args.text.now sign.result.1.now whole.result.2.now whole.result.0 whole.result.1 c.args.scale sign.ensures whole.ensures.digits (omega arith) whole.ensures.rest c.requires)

pub returns : goal.returns
returns c =
    let sign = c.sign_at-negative in
    let whole = c.digits_at-whole in
    let number = c.digits_at-number in
    let mant = c.mantissa_of-mant.result in
    let fits : FitsSigned w128 mant = search rules in
    rw (to_z-of_z w128 mant fits, c.mantissa_of-mant.ensures, number.ensures.rest)
    (pointed_begins sign.result.0 c.args.text.now sign.result.1.now c.in-Some.fraction.now whole.result.0 whole.result.1 number.result.0 number.result.1 c.args.scale sign.ensures whole.ensures.digits (omega arith) (sym c.in-Some.ensures ∙ whole.ensures.rest) number.ensures.digits (omega arith) (omega arith) c.requires)
