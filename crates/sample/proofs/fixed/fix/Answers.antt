use Rattle.std.proofs.Common.{◌≡◌, ◌∙◌, ◌+◌, ◌*◌, ◌<◌, ◌%◌, ℕ, ℤ, pos, ap, arith, subst, sym, to_z, of_z, w64, FitsSigned}
use mir.Syntax.{w128}
use Rattle.std.proofs.lemmas.Int.{ints, to_z-of_z}
use Rattle.term_model.specs.Environments.{held}
use Rattle.sample.specs.Sample.{rate_on}
use Rattle.sample.proofs.FixingFacts.{after_put, not_yet}
use Rattle.sample.proofs.fixed.fix.Goals as goal

as_day : (day : ℕ) → day < 100 → to_z w64 day ≡ pos day
as_day day h = omega (arith, ints)

fits_rate : (x : ℕ) → FitsSigned w128 (pos (8_000 + x % 8_001))
fits_rate x = omega (arith, ints)

pub put-requires-clause-absent : goal.put-requires-clause-absent
put-requires-clause-absent c =
    ap (λ (day : ℤ). held c.args.fixings.now (rate_on day)) (as_day c.args.day c.requires.day) ∙ c.requires.before (rate_on (pos c.args.day)) ∙ not_yet c.args.day c.args.day (omega arith)

pub returns-clause-after : goal.returns-clause-after
returns-clause-after c =
    let fits : FitsSigned w128 c.factor.result = subst (λ (x : ℤ). FitsSigned w128 x) (sym c.factor.ensures) (fits_rate (7 * c.args.day * c.args.day + 13 * c.args.day)) in
    after_put c.put.result c.args.fixings.now c.put.new.self c.args.day (to_z w64 c.args.day) (to_z w128 (of_z w128 c.factor.result)) c.requires.before (as_day c.args.day c.requires.day) (to_z-of_z w128 c.factor.result fits ∙ c.factor.ensures) c.put.ensures.added
