use Rattle.std.proofs.Common.{pos, ℕ, ◌≤◌, ◌<◌, ◌^◌, refl, ap, ◌∙◌, arith}
use Rattle.std.proofs.lemmas.Int.{to_z_pos}
use mir.Syntax.{w128}
use Rattle.term_model.specs.Declarations.{declarations}
use Rattle.payoff_terms.specs.Code.{payoff_code}
use Rattle.payoff_check.proofs.BoundFacts.{are_values_scaled, bounds_meet, bounds_fail}
use Rattle.payoff_check.proofs.bound_rule.bounds.Goals as goal

pub bounds_of-requires-clause-scaled : goal.bounds_of-requires-clause-scaled
bounds_of-requires-clause-scaled c =
    are_values_scaled (declarations c.args.decls.now) c.args._setting.now.days.items
    (payoff_code c.args.k.now) c.requires.sorted c.requires.scaled

pub returns-in-Ok : goal.returns-in-Ok
returns-in-Ok c =
    let q = bounds_meet (declarations c.args.decls.now) c.args._setting.now.days.items
    (payoff_code c.args.k.now) c.in-Ok.found c.requires.sorted c.requires.scaled
    c.in-Ok.ensures.total in
    let small : c.in-Ok.found.amount ≤ 10 ^ 37 = c.in-Ok.ensures.fits.amount in
    let fits : c.in-Ok.found.amount < 2 ^ 127 = omega arith in
    (q.0, to_z_pos w128 c.in-Ok.found.amount fits ∙ ap (λ (n : ℕ). pos n) q.1)

pub returns-in-Err-At : goal.returns-in-Err-At
returns-in-Err-At c = (
  refl,
  bounds_fail (declarations c.args.decls.now) c.args._setting.now.days.items
      (payoff_code c.args.k.now) c.in-Err-At.node c.requires.sorted c.requires.scaled
      (c.in-Err-At.ensures.total c.in-Err-At.node c.in-Err-At.field-0-is),
)
