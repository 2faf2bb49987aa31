use Rattle.std.proofs.Common.{◌≡◌, ◌∙◌, ◌≤◌, ◌+◌, ◌-◌, ◌^◌, ℕ, ℤ, subst, sym}
use Rattle.std.specs.Prelude.{unsigned_abs}
use Rattle.std.specs.Int.{w128}
use Rattle.std.proofs.lemmas.Int.{to_z-of_z}
use Rattle.payoff_terms.specs.CodeBooks.{code_book}
use Rattle.payoff_eval.proofs.NodeFacts.{scale_of_accepted}
use Rattle.valuation_commands.specs.ValueParts.{most_of}
use Rattle.valuation_commands.proofs.ValueParts.{most_aligned, most_fits, most_small, total_fits}
use Rattle.valuation_commands.proofs.asking.accept_code.Goals as goal

pub align-requires-clause-order : goal.align-requires-clause-order
align-requires-clause-order c =
    let b = code_book c.args.file.now in
    subst (λ (s : ℕ). s ≤ b.declarations.amounts + 9) (sym c.in-Ok.ensures.1.right_scale)
    (scale_of_accepted b.declarations c.args.setting.now.days.items b.code c.in-Ok.ensures.0)

pub align-requires-clause-small : goal.align-requires-clause-small
align-requires-clause-small c =
    let b = code_book c.args.file.now in
    let xs = c.args.setting.now.days.items in
    let facts = c.in-Ok.facts in
    let same = most_aligned b facts.total facts.scale c.in-Ok.ensures.1.right_total c.in-Ok.ensures.1.right_scale in
    rw (to_z-of_z w128 facts.total (total_fits b xs facts.total c.in-Ok.ensures.0 c.in-Ok.ensures.1.right_total))
    (subst (λ (z : ℤ). unsigned_abs z ≤ 10 ^ 37) (sym same) (most_small b xs c.in-Ok.ensures.0))

pub returns-in-Ok : goal.returns-in-Ok
returns-in-Ok c =
    let b = code_book c.args.file.now in
    let xs = c.args.setting.now.days.items in
    let facts = c.in-Ok.facts in
    let accepted = c.in-Ok.ensures.0 in
    let stated = c.in-Ok.ensures.1 in
    let same : c.align.result ≡ most_of b =
    rw (to_z-of_z w128 facts.total (total_fits b xs facts.total accepted stated.right_total)) at c.align.ensures
    ∙ most_aligned b facts.total facts.scale stated.right_total stated.right_scale in
    record {
      accepted = accepted;
      is_most = to_z-of_z w128 c.align.result (most_fits b xs c.align.result (record { accepted = accepted; is_most = same })) ∙ same;
    }
