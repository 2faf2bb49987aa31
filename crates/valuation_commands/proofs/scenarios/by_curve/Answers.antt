use Rattle.std.proofs.Common.{ℕ, inr, refl}
use Rattle.std.specs.Global.{Vec}
use Rattle.command_courses.specs.Course.{Stops, Tells}
use Rattle.command_courses.specs.Inputs.{bytes_of, file_at}
use Rattle.valuation_commands.specs.ScenarioParts.{AreTotalsFound, HaveNoTotal, by_factors, totals_by_curve}
use Rattle.valuation_commands.specs.ValueParts.{inquiry_of}
use Rattle.command_courses.specs.declared.status.Status.TheVariants as status
use Rattle.valuation_commands.proofs.ScenarioParts.{can_be_written, no_total}
use Rattle.command_courses.proofs.StopFacts.{handed_on}
use Rattle.valuation_commands.proofs.scenarios.by_curve.Goals as goal

pub returns-in_err-totals : goal.returns-in_err-totals
returns-in_err-totals c =
    let q = inquiry_of c.args.file.now c.args.asking.now in
    let set = c.args.set.now in
    let factors = c.in_ok-curve.curve in
    let course = totals_by_curve q set c.args.mean (file_at (bytes_of c.args.inputs.files.now) 2) in
    handed_on (AreTotalsFound (by_factors q factors) set) (λ (text : Vec ℕ). Tells course status.Done text.items) (HaveNoTotal (by_factors q factors) set) (Stops course)
    (λ f h. inr (factors, c.in_ok-curve.ensures, no_total (by_factors q factors) set c.args.mean f h)) c.in_err-totals.field-0.0 c.from_residual-in_err-totals.result c.in_err-totals.ensures c.from_residual-in_err-totals.ensures.1

pub lines_of-requires-clause-totals : goal.lines_of-requires-clause-totals
lines_of-requires-clause-totals c =
    can_be_written (by_factors (inquiry_of c.args.file.now c.args.asking.now) c.in_ok-curve.curve) c.args.set.now c.in_ok-totals.totals c.in_ok-totals.ensures

pub returns : goal.returns
returns c =
    let found = c.in_ok-totals.ensures in
    (c.in_ok-curve.curve, c.in_ok-curve.ensures, (tt, found.are_totals.few, (tt, found.are_totals.fixed, (refl, record { totals = c.in_ok-totals.totals; are_totals = found.are_totals; lines = c.in_ok-text.ensures }))))
