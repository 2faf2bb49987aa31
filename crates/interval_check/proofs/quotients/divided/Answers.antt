use Rattle.std.proofs.Common.{sym, refl, rules, ◌∙◌}
use Rattle.std.proofs.lemmas.Int.{to_z-of_z}
use mir.Syntax.{w128}
use mir.Val.{SFits}
use Rattle.interval_check.specs.Intervals.{interval}
use Rattle.interval_check.specs.Ranges.{range}
use Rattle.interval_check.proofs.QuotientFacts.{low_low, low_high, high_low, high_high, quotient_is}
use Rattle.interval_check.proofs.quotients.divided.Goals as goal

pub quotients-of_low-requires-clause-low : goal.quotients-of_low-requires-clause-low
quotients-of_low-requires-clause-low c =
    let top : SFits w128 c.args.top.interval.low = search rules in
    low_low c.scale.result (interval c.args.top.interval) c.scale-2.result (interval c.args.below.interval) c.args.scale _ _ (to_z-of_z w128 c.args.top.interval.low top) refl (sym c.if-not-can_divide.ensures)

pub quotients-of_low-requires-clause-high : goal.quotients-of_low-requires-clause-high
quotients-of_low-requires-clause-high c =
    let top : SFits w128 c.args.top.interval.low = search rules in
    low_high c.scale.result (interval c.args.top.interval) c.scale-2.result (interval c.args.below.interval) c.args.scale _ _ (to_z-of_z w128 c.args.top.interval.low top) refl (sym c.if-not-can_divide.ensures)

pub quotients-of_high-requires-clause-low : goal.quotients-of_high-requires-clause-low
quotients-of_high-requires-clause-low c =
    let top : SFits w128 c.args.top.interval.high = search rules in
    high_low c.scale.result (interval c.args.top.interval) c.scale-2.result (interval c.args.below.interval) c.args.scale _ _ (to_z-of_z w128 c.args.top.interval.high top) refl (sym c.if-not-can_divide.ensures)

pub quotients-of_high-requires-clause-high : goal.quotients-of_high-requires-clause-high
quotients-of_high-requires-clause-high c =
    let top : SFits w128 c.args.top.interval.high = search rules in
    high_high c.scale.result (interval c.args.top.interval) c.scale-2.result (interval c.args.below.interval) c.args.scale _ _ (to_z-of_z w128 c.args.top.interval.high top) refl (sym c.if-not-can_divide.ensures)

pub returns-clause-range : goal.returns-clause-range
returns-clause-range c =
    let low : SFits w128 c.args.top.interval.low = search rules in
    let high : SFits w128 c.args.top.interval.high = search rules in
    c.checked.ensures.range
    ∙ quotient_is c.args.mode c.args.scale (range c.args.top) (range c.args.below) c.scale.result c.scale-2.result _ _ (interval c.quotients-of_low.result) (interval c.quotients-of_high.result) (interval c.hull_of.result) c.scale.ensures c.scale-2.ensures (to_z-of_z w128 c.args.top.interval.low low) (to_z-of_z w128 c.args.top.interval.high high) (sym c.if-not-can_divide.ensures) c.quotients-of_low.ensures c.quotients-of_high.ensures c.hull_of.ensures
