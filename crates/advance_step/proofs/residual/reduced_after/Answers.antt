use Rattle.std.proofs.Common.{rules, ◌≡◌, ◌+ℤ◌, ℤ, pos, subst, w64, to_z, of_z}
use Rattle.term_model.specs.Declarations.{declarations}
use Rattle.term_core.specs.SharedTerms.{shared}
use Rattle.advance_step.specs.Residual.{IsReducedFrom}
use Rattle.advance_step.proofs.ResidualFacts.{residual_is}
use Rattle.advance_step.proofs.residual.reduced_after.Goals as goal

pub returns : goal.returns
returns c =
    let d = declarations c.args.decls.now in
    let F = c.args.fixings.now in
    let s = c.args.s.now.value in
    let from = c.args.gone.from in
    let days = c.args.gone.days in
    let left = c.in_ok-left.left.value in
    let rest = c.in_ok-reduce.field-0.value in
    let there : to_z w64 (of_z w64 c.new_day.result) ≡ from +ℤ pos days = search rules in
    residual_is d F from days s left rest c.requires.closed c.in_ok-left.ensures.0
    (subst (λ (f : ℤ). IsReducedFrom d F f (shared left) (shared rest)) there
    c.in_ok-reduce.ensures.reduced)
