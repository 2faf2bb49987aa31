use Rattle.std.proofs.Common.{sym}
use Rattle.term_model.specs.Declarations.{declarations}
use Rattle.term_model.specs.Terms.{expression}
use Rattle.interval_check.specs.Ranges.{range}
use Rattle.interval_check.specs.RangeScopes.{ranges_in}
use Rattle.interval_check.proofs.RangeKinds.{kind_is_found}
use Rattle.payoff_check.proofs.bound_rule.range_of_undated.Goals as goal

pub returns-in-Ok-clause-kind : goal.returns-in-Ok-clause-kind
returns-in-Ok-clause-kind c =
    kind_is_found (declarations c.args.decls.now) (expression c.args.e.now)
    (ranges_in c.args.scope.now) (range c.in-Ok.range) (sym c.in-Ok.ensures.range)
