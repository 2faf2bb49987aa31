use Rattle.std.proofs.Common.{◌∙◌, ℕ, ap₂, max, arith}
use Rattle.std.proofs.lemmas.Int.{to_z-of_z}
use mir.Syntax.{w128}
use Rattle.contract_check.proofs.FactorFacts.{greatest_is}
use Rattle.contract_check.proofs.simple_factors.greatest_product.Goals as goal

pub returns-then-size : goal.returns-then-size
returns-then-size c =
    let low = rw (to_z-of_z w128 c.args.low c.ranges.low, to_z-of_z w128 c.args.mant c.ranges.mant) at c.in_ok-by_low.ensures.value in
    let high = rw (to_z-of_z w128 c.args.high c.ranges.high, to_z-of_z w128 c.args.mant c.ranges.mant) at c.in_ok-by_high.ensures.value in
    let small_low = c.in_ok-by_low.ensures.small in
    let small_high = c.in_ok-by_high.ensures.small in
    let one = rw (to_z-of_z w128 c.in_ok-by_low.by_low (omega (arith, small_low))) at c.rounded_size-one.ensures in
    let other = rw (to_z-of_z w128 c.in_ok-by_high.by_high (omega (arith, small_high))) at c.rounded_size-other.ensures in
    greatest_is c.args.mode (record { low = c.args.low; high = c.args.high }) c.args.mant c.in_ok-by_low.by_low c.in_ok-by_high.by_high c.args.from c.args.to c.max-size.result
    low high small_low small_high (c.max-size.ensures ∙ ap₂ (λ (x y : ℕ). max x y) one other) c.if-size.true
