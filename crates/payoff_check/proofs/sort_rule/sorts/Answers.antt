use Rattle.std.proofs.Common.{refl}
use Rattle.term_model.specs.Declarations.{declarations}
use Rattle.payoff_terms.specs.Code.{payoff_code}
use Rattle.payoff_check.proofs.SortFacts.{sorts_meet, sorts_fail}
use Rattle.payoff_check.proofs.sort_rule.sorts.Goals as goal

pub returns-in-Ok : goal.returns-in-Ok
returns-in-Ok c = (
  sorts_meet (declarations c.args.decls.now) c.args._setting.now.days.items
      (payoff_code c.args.k.now) _ c.in-Ok.ensures.sorts,
  tt,
)

pub returns-in-Err-At : goal.returns-in-Err-At
returns-in-Err-At c = (
  refl,
  sorts_fail (declarations c.args.decls.now) c.args._setting.now.days.items
      (payoff_code c.args.k.now) c.in-Err-At.node
      (c.in-Err-At.ensures.sorts c.in-Err-At.node c.in-Err-At.field-0-is),
)
