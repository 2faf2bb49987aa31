use Rattle.std.proofs.Common.{arith, rules, subst, sym}
use Rattle.std.proofs.lemmas.Grind.{common_steps}
use Rattle.std.proofs.lemmas.Int.{to_z-of_z}
use mir.Syntax.{w128}
use mir.Val.{SFits}
use Rattle.term_model.specs.Bounds.{Interval}
use Rattle.interval_check.specs.Intervals.{interval, EndsFit}
use Rattle.interval_check.proofs.IntervalFacts.{no_lower, no_upper, products_there, hull_small}
use Rattle.interval_check.proofs.intervals.product_of.Goals as goal

pub returns-in_err-of_low : goal.returns-in_err-of_low
returns-in_err-of_low c = grind (arith, common_steps, to_z-of_z, no_lower)

pub returns-in_err-of_high : goal.returns-in_err-of_high
returns-in_err-of_high c = grind (arith, common_steps, to_z-of_z, no_upper)

pub returns-clause-interval : goal.returns-clause-interval
returns-clause-interval c =
    let low : SFits w128 c.args.i.low = search rules in
    let high : SFits w128 c.args.i.high = search rules in
    products_there (interval c.args.i) (interval c.args.j) (interval c.in_ok-of_low.of_low) (interval c.in_ok-of_high.of_high) (interval c.hull_of.result) _ _ (to_z-of_z w128 c.args.i.low low) (to_z-of_z w128 c.args.i.high high) c.in_ok-of_low.ensures.interval c.in_ok-of_high.ensures.interval c.hull_of.ensures

pub returns-clause-small : goal.returns-clause-small
returns-clause-small c =
    subst (λ (i : Interval). EndsFit i) (sym c.hull_of.ensures) (hull_small (interval c.in_ok-of_low.of_low) (interval c.in_ok-of_high.of_high) c.in_ok-of_low.ensures.small c.in_ok-of_high.ensures.small)
