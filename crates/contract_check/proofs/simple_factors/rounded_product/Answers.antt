use Rattle.std.proofs.Common.{◌∙◌, Some, ap, sym, arith, rules}
use Rattle.std.proofs.lemmas.Bool.{and_from}
use Rattle.std.proofs.lemmas.Int.{ints, to_z-of_z}
use mir.Syntax.{w128}
use mir.Val.{SFits}
use Rattle.term_model.specs.Declarations.{declarations}
use Rattle.term_model.specs.declared.label.Label.{Label}
use Rattle.contract_check.proofs.FactorFacts.{product_factor}
use Rattle.contract_check.proofs.simple_factors.rounded_product.Goals as goal

pub returns : goal.returns
returns c =
    let low = c.in-Some-Number.low in
    let high = c.in-Some-Number.high in
    let low_width : SFits w128 low = search rules in
    let high_width : SFits w128 high = search rules in
    let low_is = to_z-of_z w128 low low_width in
    let high_is = to_z-of_z w128 high high_width in
    let mant_is = to_z-of_z w128 c.args.mant c.ranges.mant in
    let fits_low = rw low_is at c.if-not-is_mantissa.ensures in
    let fits_high = rw high_is at c.if-not-is_mantissa-2.ensures in
    let fits_mant = rw mant_is at c.if-not-is_mantissa-3.ensures in
    let greatest = rw (low_is, high_is, mant_is) at c.in_ok-size.ensures in
    product_factor (declarations c.args.decls.now) c.args.mode c.args.scale c.args.label c.args.offset c.args.mant c.args.own c.in-Some-Number.declared low high c.in_ok-size.size
    (sym c.in-Some-Number.ensures ∙ ap (λ (x : Label). Some x) c.in-Some-Number.field-0-is) (omega (arith, ints, c.if-offset.false)) (and_from _ _ (sym fits_low) (sym fits_high)) (sym fits_mant)
    (omega (arith, c.if-own-gt27.false)) (omega (arith, c.if-own-gt27.false, c.if-declared-own.false)) (omega (arith, c.if-scale-gt-MOST_DECIMALS.false)) greatest (omega (arith, ints, c.if-offset-gt0.false))
