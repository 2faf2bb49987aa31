use Rattle.std.proofs.Common.{refl}
use Rattle.term_model.specs.Declarations.{declarations}
use Rattle.payoff_terms.specs.Code.{payoff_code}
use Rattle.payoff_check.proofs.ScaleFacts.{scales_meet, scales_fail}
use Rattle.payoff_check.proofs.scale_rule.scales.Goals as goal

pub returns-in-Ok : goal.returns-in-Ok
returns-in-Ok c =
    scales_meet (declarations c.args.decls.now) c.args._setting.now.days.items
    (payoff_code c.args.k.now) c.in-Ok.found c.requires.sorted c.in-Ok.ensures.scale

pub returns-in-Err-At : goal.returns-in-Err-At
returns-in-Err-At c = (
  refl,
  scales_fail (declarations c.args.decls.now) c.args._setting.now.days.items
      (payoff_code c.args.k.now) c.in-Err-At.node c.requires.sorted
      (c.in-Err-At.ensures.scale c.in-Err-At.node c.in-Err-At.field-0-is),
)
