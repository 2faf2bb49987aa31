use Rattle.std.proofs.Common.{rules}
use Rattle.term_model.specs.Declarations.{declarations}
use Rattle.term_model.specs.Terms.{expression, contract}
use Rattle.interval_check.specs.Ranges.{range}
use Rattle.interval_check.specs.RangeScopes.{ranges_in}
use Rattle.interval_check.specs.Totals.{total}
use Rattle.interval_check.proofs.BehindFacts.{range_behind, total_behind}
use Rattle.interval_check.proofs.TotalScales.{let_scaled, product_scaled}
use Rattle.interval_check.proofs.bound_rule.+totalling.Goals as goal

pub total_of_let-total_of-requires : goal.total_of_let-total_of-requires
total_of_let-total_of-requires t c =
    (search rules, (search rules, let_scaled (declarations c.args.decls.now) _ (expression c.args.bound.now) (contract c.args.body.now) (ranges_in c.args.scope.now) (range c.in_ok-range.range) (range_behind _ c.range_of.result c.in_ok-range.range _ c.in_ok-range.ensures c.range_of.ensures.range) c.requires.scaled))

pub total_of_scale-total_of_scaled-requires-clause-scale : goal.total_of_scale-total_of_scaled-requires-clause-scale
total_of_scale-total_of_scaled-requires-clause-scale t c =
    product_scaled (declarations c.args.decls.now) _ _ (expression c.args.factor.now) (contract c.args.body.now) (ranges_in c.args.scope.now) (range c.in_ok-range.range) (total c.in_ok-body_total.body_total)
    (range_behind _ c.range_of.result c.in_ok-range.range _ c.in_ok-range.ensures c.range_of.ensures.range)
    (total_behind _ c.total_of.result c.in_ok-body_total.body_total _ c.in_ok-body_total.ensures c.total_of.ensures.total) c.requires.scaled
