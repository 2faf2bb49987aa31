use Rattle.std.proofs.Common.{refl, sym}
use Rattle.term_model.specs.Declarations.{declarations}
use Rattle.payoff_terms.specs.Code.{payoff_code}
use Rattle.payoff_check.proofs.SizeFacts.{sizes_meet, sizes_fail}
use Rattle.payoff_check.proofs.size_rule.sizes.Goals as goal

pub returns-in-Ok : goal.returns-in-Ok
returns-in-Ok c =
    let found = rw c.as_slice.ensures.value at c.in-Ok.ensures.size in
    (sizes_meet (declarations c.args._decls.now) c.args.setting.now.days.items (payoff_code c.args.k.now) c.in-Ok.field-0 (sym found), tt)

pub returns-in-Err : goal.returns-in-Err
returns-in-Err c =
    let found = rw c.as_slice.ensures.value at c.in-Err.ensures.size in
    (refl, sizes_fail (declarations c.args._decls.now) c.args.setting.now.days.items (payoff_code c.args.k.now) c.in-Err.node (sym found))
