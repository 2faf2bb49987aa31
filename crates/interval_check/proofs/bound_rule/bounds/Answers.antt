use Rattle.std.proofs.Common.{pos, ℕ, ◌≤◌, ◌<◌, ◌^◌, ap, refl, ◌∙◌, arith}
use Rattle.std.proofs.lemmas.Int.{to_z_pos}
use mir.Syntax.{w128}
use Rattle.term_model.specs.Declarations.{declarations}
use Rattle.term_model.specs.Terms.{contract}
use Rattle.interval_check.specs.Totals.{total}
use Rattle.interval_check.specs.TotalTrials.{at_decimals}
use Rattle.interval_check.proofs.RootFacts.{sorted_kinds}
use Rattle.interval_check.proofs.ScaledFacts.{scaled_totals, few_nodes}
use Rattle.interval_check.proofs.TotalFacts.{bounds_meet, bounds_fail, total_is}
use Rattle.interval_check.proofs.bound_rule.bounds.Goals as goal

pub total_of-requires-clause-nodes : goal.total_of-requires-clause-nodes
total_of-requires-clause-nodes c = few_nodes (declarations c.args.decls.now) (contract c.args.c.now) c.requires.small

pub total_of-requires-clause-scaled : goal.total_of-requires-clause-scaled
total_of-requires-clause-scaled c =
    let d = declarations c.args.decls.now in
    scaled_totals d (contract c.args.c.now) (sorted_kinds d (contract c.args.c.now) c.requires.sorted) c.requires.scaled

pub returns-in-Ok : goal.returns-in-Ok
returns-in-Ok c =
    let d = declarations c.args.decls.now in
    let e = contract c.args.c.now in
    let small : at_decimals d.amounts (total c.in-Ok.total) ≤ 10 ^ 27 = c.in-Ok.ensures.fits.aligned in
    let fits : c.amount_at.result < 2 ^ 127 = omega (arith, c.amount_at.ensures, small) in (
      bounds_meet d e (total c.in-Ok.total) c.requires.sorted c.in-Ok.ensures.total,
      to_z_pos w128 c.amount_at.result fits
          ∙ ap (λ (n : ℕ). pos n) (c.amount_at.ensures ∙ total_is d e (total c.in-Ok.total) c.requires.sorted c.in-Ok.ensures.total),
    )

pub returns-in-Err : goal.returns-in-Err
returns-in-Err c =
    (refl, bounds_fail (declarations c.args.decls.now) (contract c.args.c.now) c.in-Err.node c.requires.sorted c.in-Err.ensures.total)
