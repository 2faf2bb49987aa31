use Rattle.std.proofs.Common.{sym, refl, ◌∙◌}
use Rattle.term_model.specs.Terms.{contract}
use Rattle.scale_check.proofs.SizeFacts.{sizes_meet, sizes_fail}
use Rattle.scale_check.proofs.size_rule.sizes.Goals as goal

pub returns-in-Ok : goal.returns-in-Ok
returns-in-Ok c =
    let h = sizes_meet (contract c.args.c.now) c.in-Ok.size (sym c.in-Ok.ensures.size) in
    (h.1, c.reach_in_days.ensures ∙ h.0)

pub returns-in-Err : goal.returns-in-Err
returns-in-Err c = (refl, sizes_fail (contract c.args.c.now) c.in-Err.node (sym c.in-Err.ensures.size))
