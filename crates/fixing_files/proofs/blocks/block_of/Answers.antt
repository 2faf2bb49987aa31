use Rattle.std.proofs.Common.{rules, ◌≡◌, ◌∙◌, ℤ, ◌≤ℤ◌, FitsSigned, to_z, of_z, ap, sym, subst}
use Rattle.std.specs.Int.{w128}
use Rattle.std.proofs.lemmas.Int.{to_z-of_z}
use Rattle.term_model.specs.Values.{num}
use Rattle.fixing_files.specs.Blocks.{number_at}
use Rattle.fixing_files.specs.Runs.{no_day}
use Rattle.fixing_files.specs.declared.runs.FixedDay.{FixedDay}
use Rattle.fixing_files.proofs.BlockFacts.{one_more}
use Rattle.fixing_files.proofs.RunFacts.{same_read}
use Rattle.fixing_files.proofs.blocks.block_of.Goals as goal

pub loop-fixed-preserved : goal.loop-fixed-preserved
loop-fixed-preserved c =
    let days = c.args.days.now in
    let k = c.loop-fixed.fixed-index in
    let low_fits : FitsSigned w128 c.min-low.result = search rules in
    let high_fits : FitsSigned w128 c.max-high.result = search rules in
    let number_fits : FitsSigned w128 c.number-number.result = search rules in
    let low = sym (to_z-of_z w128 c.min-low.result low_fits) in
    let high = sym (to_z-of_z w128 c.max-high.result high_fits) in
    let number : to_z w128 (of_z w128 c.number-number.result) ≡ number_at days k =
    to_z-of_z w128 c.number-number.result number_fits ∙ c.number-number.ensures ∙ ap (λ (f : FixedDay). num f.value) (same_read days k _ no_day c.loop-fixed-test.true) in
    one_more (record { low = to_z w128 c.loop-fixed.low-bits; high = to_z w128 c.loop-fixed.high-bits }) (record { low = to_z w128 (of_z w128 c.min-low.result); high = to_z w128 (of_z w128 c.max-high.result) }) days k
    c.loop-fixed.invariant
    (subst (λ (x : ℤ). x ≤ℤ to_z w128 c.loop-fixed.low-bits) low c.min-low.ensures.self_bound)
    (subst (λ (x : ℤ). to_z w128 c.loop-fixed.high-bits ≤ℤ x) high c.max-high.ensures.self_bound) (
      subst (λ (x : ℤ). x ≤ℤ number_at days k) low (subst (λ (x : ℤ). c.min-low.result ≤ℤ x) number c.min-low.ensures.other_bound),
      subst (λ (x : ℤ). number_at days k ≤ℤ x) high (subst (λ (x : ℤ). x ≤ℤ c.max-high.result) number c.max-high.ensures.other_bound),
    )
