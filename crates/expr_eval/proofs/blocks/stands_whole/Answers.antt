use Rattle.std.proofs.Common.{rules, ◌≡◌, ◌∙◌, ◌+◌, ◌≤◌, ◌+ℤ◌, ℤ, pos, w64, FitsSigned, to_z, of_z, length, get_or, ap, sym, arith}
use Rattle.std.proofs.lemmas.Bool.Decides.{nat_tests}
use Rattle.std.proofs.lemmas.Int.{to_z-of_z}
use Rattle.term_model.specs.declared.values.Value.TheVariants.{Num}
use Rattle.fixing_files.specs.Runs.{day_at, no_day}
use Rattle.fixing_files.specs.declared.runs.FixedDay.{FixedDay}
use Rattle.fixing_files.proofs.RunFacts.{same_read}
use Rattle.expr_eval.proofs.PassFacts.{whole}
use Rattle.expr_eval.proofs.blocks.stands_whole.Goals as goal

pub returns-then-run-at : goal.returns-then-run-at
returns-then-run-at c =
    let run = c.args.run.now in
    let at = c.args.at in
    let day = c.args.day in
    let d : FixedDay = record { day = pos 0; value = Num (pos 0) } in
    let fits : at + 128 ≤ length run = omega arith in
    let first_found : (get_or run at d).day ≡ day = search rules in
    let first : day_at run at ≡ day = ap (λ (f : FixedDay). f.day) (same_read run at no_day d (omega arith)) ∙ first_found in
    let here : to_z w64 (of_z w64 day) ≡ day = to_z-of_z w64 day c.ranges.day in
    let last_fits : FitsSigned w64 (get_or run (at + 127) d).day = search rules in
    let end_fits : FitsSigned w64 (to_z w64 (of_z w64 day) +ℤ pos 127) = search rules in
    λ same.
    let bits : of_z w64 (get_or run (at + 127) d).day ≡ of_z w64 (to_z w64 (of_z w64 day) +ℤ pos 127) = grind (arith, nat_tests, same) in
    let last : day_at run (at + 127) ≡ day +ℤ pos 127 =
    ap (λ (f : FixedDay). f.day) (same_read run (at + 127) no_day d (omega arith))
    ∙ sym (to_z-of_z w64 (get_or run (at + 127) d).day last_fits) ∙ ap (to_z w64) bits ∙ to_z-of_z w64 (to_z w64 (of_z w64 day) +ℤ pos 127) end_fits
    ∙ ap (λ (t : ℤ). t +ℤ pos 127) here in
    whole run at day c.requires.rising fits first last
