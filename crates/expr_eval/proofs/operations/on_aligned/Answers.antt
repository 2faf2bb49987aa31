use Rattle.std.proofs.Common.{ℤ, ◌+ℤ◌, ◌-ℤ◌, ◌*ℤ◌, ap₂, subst}
use Rattle.std.specs.Int.{w128}
use Rattle.std.proofs.lemmas.Int.{to_z-of_z}
use Rattle.term_model.specs.declared.terms.NumOp.{NumOp}
use Rattle.term_model.specs.Values.{num_op}
use Rattle.interval_check.specs.Safety.{IsSmall}
use Rattle.expr_eval.proofs.SmallFacts.{small_fits}
use Rattle.expr_eval.proofs.operations.on_aligned.Goals as goal

pub overflow_add-result : goal.overflow_add-result
overflow_add-result c =
    small_fits (c.args.x +ℤ c.args.y) _ (ap₂ (λ (x y : ℤ). x +ℤ y) (to_z-of_z w128 c.args.x c.ranges.x) (to_z-of_z w128 c.args.y c.ranges.y)) (subst (λ (o : NumOp). IsSmall (num_op o c.args.x c.args.y)) c.in-Plus.is c.requires.outcome)

pub overflow_sub-result : goal.overflow_sub-result
overflow_sub-result c =
    small_fits (c.args.x -ℤ c.args.y) _ (ap₂ (λ (x y : ℤ). x -ℤ y) (to_z-of_z w128 c.args.x c.ranges.x) (to_z-of_z w128 c.args.y c.ranges.y)) (subst (λ (o : NumOp). IsSmall (num_op o c.args.x c.args.y)) c.in-Minus.is c.requires.outcome)

pub overflow_mul-result : goal.overflow_mul-result
overflow_mul-result c =
    small_fits (c.args.x *ℤ c.args.y) _ (ap₂ (λ (x y : ℤ). x *ℤ y) (to_z-of_z w128 c.args.x c.ranges.x) (to_z-of_z w128 c.args.y c.ranges.y)) (subst (λ (o : NumOp). IsSmall (num_op o c.args.x c.args.y)) c.in-Times.is c.requires.outcome)
