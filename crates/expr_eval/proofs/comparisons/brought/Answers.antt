use Rattle.std.proofs.Common.{ℤ, ◌*ℤ◌, ap₂}
use Rattle.std.specs.Int.{w128}
use Rattle.std.proofs.lemmas.Int.{to_z-of_z}
use Rattle.expr_eval.proofs.SmallFacts.{small_fits}
use Rattle.expr_eval.proofs.comparisons.brought.Goals as goal

pub overflow_mul-result : goal.overflow_mul-result
overflow_mul-result c =
    small_fits (c.args.x *ℤ c.args.factor) _ (ap₂ (λ (x y : ℤ). x *ℤ y) (to_z-of_z w128 c.args.x c.ranges.x) (to_z-of_z w128 c.args.factor c.ranges.factor)) c.requires
