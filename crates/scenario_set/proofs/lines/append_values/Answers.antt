use Rattle.std.proofs.Common.{◌≡◌, ◌∙◌, ◌<◌, ◌++◌, ℕ, ℤ, List, [], Some, pos, length, take, ap, sym, subst, arith, to_z-of_z}
use Rattle.std.specs.List.{flat_map}
use Rattle.std.proofs.lemmas.List.{take_all}
use Rattle.decimal.specs.Appending.{AppendsPart}
use Rattle.decimal.proofs.AppendingFacts.{on_err}
use Rattle.scenario_set.specs.TotalLines.{line_text, named_values, value_line}
use Rattle.scenario_set.specs.Totals.{value_at}
use Rattle.scenario_set.proofs.LineFacts.{fits_of_small, goes_on, long_named, named_at, stopped_in}
use Rattle.scenario_set.proofs.lines.append_values.Goals as goal

pub returns-in_err-append_line-clause-err : goal.returns-in_err-append_line-clause-err
returns-in_err-append_line-clause-err c =
    let set = c.args.set.now in
    let values = c.args.values.now in
    let i = c.loop-i.i in
    let within : i < length set = omega (arith, c.loop-i-test.true, c.count-count.ensures.count) in
    let long = long_named set values c.requires.each in
    let at = named_at set values i ([], pos 0) c.text.result.now c.requires.each within (c.name.ensures ∙ ap (λ (n : List ℕ). Some n) (sym c.text.ensures)) in
    let fits = fits_of_small (value_at values i) (c.requires.small i (pos 0) (omega (arith, within, c.requires.each))) in
    let part : AppendsPart c.loop-i.out.items (line_text c.text.result.now (value_at values i) c.args.decimals.count) c.append_line.new.out.items = simp (to_z-of_z, fits) at c.in_err-append_line.ensures.err in
    on_err c.from_residual.result
    (stopped_in (value_line c.args.decimals.count) (named_values set values) i ([], pos 0) c.args.out.now.items c.loop-i.out.items c.append_line.new.out.items (omega (arith, within, long)) c.loop-i.invariant
    (subst (λ (p : List ℕ × ℤ). AppendsPart c.loop-i.out.items (value_line c.args.decimals.count p) c.append_line.new.out.items) (sym at) part))

pub loop-i-preserved : goal.loop-i-preserved
loop-i-preserved c =
    let set = c.args.set.now in
    let values = c.args.values.now in
    let i = c.loop-i.i in
    let within : i < length set = omega (arith, c.loop-i-test.true, c.count-count.ensures.count) in
    let long = long_named set values c.requires.each in
    let at = named_at set values i ([], pos 0) c.text.result.now c.requires.each within (c.name.ensures ∙ ap (λ (n : List ℕ). Some n) (sym c.text.ensures)) in
    let fits = fits_of_small (value_at values i) (c.requires.small i (pos 0) (omega (arith, within, c.requires.each))) in
    let more : c.append_line.new.out.items ≡ c.loop-i.out.items ++ line_text c.text.result.now (value_at values i) c.args.decimals.count = simp (to_z-of_z, fits) at c.in_ok-append_line.ensures.ok in
    goes_on (value_line c.args.decimals.count) (named_values set values) i ([], pos 0) c.args.out.now.items c.loop-i.out.items c.append_line.new.out.items (omega (arith, within, long)) c.loop-i.invariant
    (more ∙ ap (λ (p : List ℕ × ℤ). c.loop-i.out.items ++ value_line c.args.decimals.count p) (sym at))

pub returns-clause-ok : goal.returns-clause-ok
returns-clause-ok c =
    let named = named_values c.args.set.now c.args.values.now in
    let whole : take c.loop-i.i named ≡ named = take_all c.loop-i.i named (omega (arith, long_named c.args.set.now c.args.values.now c.requires.each, c.loop-i-test.false, c.count-count.ensures.count)) in
    c.loop-i.invariant ∙ ap (λ (l : List (List ℕ × ℤ)). c.args.out.now.items ++ flat_map (value_line c.args.decimals.count) l) whole
