use Rattle.std.proofs.Common.{◌≡◌, ◌++◌, ◌^◌, ◌≤◌, ℤ, arith, subst, unsigned_abs, FitsSigned}
use mir.Syntax.{w128}
use Rattle.std.proofs.lemmas.Int.{ints, to_z-of_z}
use Rattle.decimal.specs.Text.{text_of}
use Rattle.term_model.specs.Declarations.{declarations, decimals_of}
use Rattle.report.specs.CheckLines.{line_feed}
use Rattle.report.specs.FlowLines.{field}
use Rattle.sample.proofs.LineFacts.{four_appended}
use Rattle.sample.proofs.lines.append_sum.Goals as goal

fits_amount : (x : ℤ) → unsigned_abs x ≤ 10 ^ 36 → FitsSigned w128 x
fits_amount x h = omega (arith, ints)

pub returns : goal.returns
returns c =
    let before = c.append_asset.new.out.items in
    let after = c.append_amount.new.out.items in
    let decimals = decimals_of (declarations c.args.decls.now) c.args.row.now.asset in
    let appended = rw c.decimals.ensures.decimals at c.in_ok-append_amount.ensures in
    let last = subst (λ (x : ℤ). after ≡ before ++ (field (text_of x decimals) ++ line_feed)) (to_z-of_z w128 c.args.row.now.amount (fits_amount c.args.row.now.amount c.requires)) appended in
    four_appended c.args.out.now.items c.append_name.new.out.items c.append_field.new.out.items before after _ _ _ _ c.in_ok-append_name.ensures c.in_ok-append_field.ensures c.in_ok-append_asset.ensures last
