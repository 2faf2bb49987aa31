use Rattle.std.proofs.Common.{rules, ◌≡◌, ◌∙◌, ◌<ℤ◌, ◌*ℤ◌, ℤ, pos, Bool, if◌then◌else◌, FitsSigned, w64, ap, sym, subst, arith}
use Rattle.std.specs.Int.{w128}
use Rattle.std.proofs.lemmas.Int.{ints, to_z-of_z}
use Rattle.expr_eval.specs.Passing.{IsBeyond, opposite}
use Rattle.expr_eval.proofs.PassFacts.{not_met}
use Rattle.expr_eval.proofs.blocks.cannot_meet.Goals as goal
use Rattle.expr_eval.proofs.blocks.cannot_meet.Goals.{then-watch, else-watch}

pub returns : goal.returns
returns c =
    let w = c.args.watch in
    let op = c.in-Number.op in
    let turned : c.if-watch.op ≡ (if w.wanted then op else opposite op) = elim c.if-watch.branch [
      | then-watch t ↦ t.op-is ∙ ap (λ (b : Bool). if b then op else opposite op) (sym t.if-watch.true)
      | else-watch t ↦ t.op-is ∙ t.opposite-op.ensures ∙ ap (λ (b : Bool). if b then op else opposite op) (sym t.if-watch.false)
    ] in
    let above : pos 0 <ℤ c.in-Number.factor = grind (arith, ints, c.if-factor-le0.false) in
    let fits : FitsSigned w64 c.in-Number.factor = search rules in
    let is : c.in-Some.block ≡ record { low = c.args.block.low *ℤ c.in-Number.factor; high = c.args.block.high *ℤ c.in-Number.factor } =
    subst (λ (x : ℤ). c.in-Some.block ≡ record { low = c.args.block.low *ℤ x; high = c.args.block.high *ℤ x }) (to_z-of_z w64 c.in-Number.factor fits) c.in-Some.ensures in
    let bound_fits : FitsSigned w128 c.in-Number.bound = search rules in
    λ holds. not_met w op c.if-watch.op c.in-Number.factor c.in-Number.bound c.args.block c.in-Some.block c.in-Number.is above is turned
    (subst (λ (x : ℤ). IsBeyond c.if-watch.op c.in-Some.block x) (to_z-of_z w128 c.in-Number.bound bound_fits) (c.is_beyond.ensures holds))
