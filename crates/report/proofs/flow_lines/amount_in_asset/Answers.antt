use Rattle.std.proofs.Common.{◌∙◌, ◌-◌, ◌≤◌, FitsSigned, ℕ, ℤ, unsigned_abs, ap, subst, sym, arith}
use mir.Syntax.{w128}
use Rattle.std.proofs.lemmas.Int.{ints, to_z-of_z}
use Rattle.decimal.specs.Rounding.{raised, at_scale}
use Rattle.decimal.specs.declared.Mode.TheVariants.{Floor}
use Rattle.decimal.specs.Mantissas.{greatest_mantissa}
use Rattle.interval_check.specs.Safety.{IsSmall}
use Rattle.term_model.specs.Declarations.{declarations, decimals_of}
use Rattle.report.proofs.ExactFacts.{exact_floor, no_more, smaller}
use Rattle.report.proofs.flow_lines.amount_in_asset.Goals as goal

fits_small : (x : ℤ) → IsSmall x → FitsSigned w128 x
fits_small x h = omega (arith, ints, h)

pub round_to-requires-clause-fits : goal.round_to-requires-clause-fits
round_to-requires-clause-fits c =
    let amount = c.args.amount.now in
    let amounts = c.args.decls.now.amounts in
    λ least. subst (λ (x : ℤ). unsigned_abs (raised x (c.decimals.result - amounts)) ≤ greatest_mantissa) (sym (to_z-of_z w128 amount (fits_small amount c.requires.small)))
    (no_more amount amounts c.decimals.result greatest_mantissa c.decimals.ensures.within least c.requires.small)

pub round_to-requires-clause-to_scale : goal.round_to-requires-clause-to_scale
round_to-requires-clause-to_scale c = omega (arith, c.decimals.ensures.within, c.args.decls.now.amounts_in)

pub returns : goal.returns
returns c =
    let top = c.args.decls.now.amounts in
    let here = decimals_of (declarations c.args.decls.now) c.args.asset in
    let multiple = c.requires.whole in
    let within : here ≤ top = subst (λ (n : ℕ). n ≤ top) c.decimals.ensures.decimals c.decimals.ensures.within in
    let stored = to_z-of_z w128 c.args.amount.now (fits_small c.args.amount.now c.requires.small) in
    let is = c.round_to.ensures ∙ ap (λ (x : ℤ). at_scale Floor x top c.decimals.result) stored ∙ ap (λ (n : ℕ). at_scale Floor c.args.amount.now top n) c.decimals.ensures.decimals ∙ ap (λ (x : ℤ). at_scale Floor x top here) multiple.1 ∙ exact_floor multiple.0 top here within in
    let small = subst (λ (x : ℤ). IsSmall x) (sym is) (smaller multiple.0 (top - here) greatest_mantissa (subst (λ (x : ℤ). unsigned_abs x ≤ greatest_mantissa) multiple.1 c.requires.small)) in
    let answered = to_z-of_z w128 c.round_to.result (fits_small c.round_to.result small) in
    record {
      small = subst (λ (x : ℤ). IsSmall x) (sym answered) small;
      exact = multiple.1 ∙ ap (λ (x : ℤ). raised x (top - here)) (sym (answered ∙ is));
    }
