use Rattle.std.proofs.Common.{rules, ◌≡◌, ◌≤◌, ◌+◌, ◌^◌, ◌∙◌, ℤ, ◌+ℤ◌, unsigned_abs, ap, ap₂, subst, FitsSigned, w32, w64}
use Rattle.std.proofs.lemmas.Int.{to_z-of_z}
use Rattle.term_model.specs.declared.terms.Expr.{Expr}
use Rattle.term_model.specs.Terms.{expression}
use Rattle.specialise.proofs.WalkFacts.{can_tell_later}
use Rattle.specialise.proofs.contracts.stored_at.Goals as goal

pub specialise_at-requires : goal.specialise_at-requires
specialise_at-requires c =
    let fits : FitsSigned w64 c.day_read.result = search rules in
    let there : c.day_read.result ≡ c.args.day +ℤ c.args.moved =
    c.day_read.ensures.day ∙ ap₂ (λ (x y : ℤ). x +ℤ y) (to_z-of_z w64 c.args.day c.ranges.day) (to_z-of_z w32 c.args.moved c.ranges.moved) in
    let near : unsigned_abs c.day_read.result ≤ unsigned_abs c.args.day + 2 ^ 32 =
    subst (λ (x : ℤ). unsigned_abs c.day_read.result ≤ unsigned_abs x + 2 ^ 32) (to_z-of_z w64 c.args.day c.ranges.day) c.day_read.ensures.near in
    can_tell_later c.args.known.now.decls (expression c.args.e.now.value) _ c.args.moved c.args.day c.day_read.result _ c.requires (ap (λ (x : Expr). expression x) c.deref.ensures) there (to_z-of_z w64 c.day_read.result fits) near
