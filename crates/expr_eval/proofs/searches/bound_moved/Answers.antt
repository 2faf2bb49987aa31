use Rattle.std.proofs.Common.{rules}
use Rattle.expr_eval.proofs.MovedFacts.{minus_made, plus_made}
use Rattle.expr_eval.proofs.searches.bound_moved.Goals as goal

pub returns-in_ok-checked_add-in-Plus : goal.returns-in_ok-checked_add-in-Plus
returns-in_ok-checked_add-in-Plus c =
    plus_made c.args.op c.args.bound c.args.by c.number-in-Plus.result c.scale-i.result c.scale-j.result _ c.factors_of-factors.result c.in_ok-x.x c.in_ok-y.y _
    c.scale-i.ensures c.scale-j.ensures c.factors_of-factors.ensures (search rules) (search rules) (search rules) c.number-in-Plus.ensures c.in-Plus.is (search rules)

pub returns-in_ok-checked_sub-in-Minus : goal.returns-in_ok-checked_sub-in-Minus
returns-in_ok-checked_sub-in-Minus c =
    minus_made c.args.op c.args.bound c.args.by c.number-in-Minus.result c.scale-i.result c.scale-j.result _ c.factors_of-factors.result c.in_ok-x.x c.in_ok-y.y _
    c.scale-i.ensures c.scale-j.ensures c.factors_of-factors.ensures (search rules) (search rules) (search rules) c.number-in-Minus.ensures c.in-Minus.is (search rules)
