use Rattle.std.proofs.Common.{◌≤ℤ◌, neg_ℤ, pos, refl, sym, arith, w32, w64}
use Rattle.std.specs.Prelude.{FitsSigned}
use Rattle.std.proofs.lemmas.Int.{ints, to_z-of_z}
use Rattle.fixing_files.proofs.days.date.Goals as goal

pub overflow_cast-result : goal.overflow_cast-result
overflow_cast-result c =
    let day : (neg_ℤ (pos 719_162) ≤ℤ c.in_ok-day.day) × (c.in_ok-day.day ≤ℤ pos 2_932_896) = c.days_of_texts_are_civil.ensures c.args.text.now c.in_ok-day.day (sym c.in_ok-day.ensures) in
    let fits : FitsSigned w64 c.in_ok-day.day = omega (arith, ints) in
    rw (to_z-of_z w64 c.in_ok-day.day fits) (omega (arith, ints))

pub returns : goal.returns
returns c =
    let day : (neg_ℤ (pos 719_162) ≤ℤ c.in_ok-day.day) × (c.in_ok-day.day ≤ℤ pos 2_932_896) = c.days_of_texts_are_civil.ensures c.args.text.now c.in_ok-day.day (sym c.in_ok-day.ensures) in
    let wide : FitsSigned w64 c.in_ok-day.day = omega (arith, ints) in
    let narrow : FitsSigned w32 c.in_ok-day.day = omega (arith, ints) in
    rw (to_z-of_z w64 c.in_ok-day.day wide, to_z-of_z w32 c.in_ok-day.day narrow, sym c.in_ok-day.ensures) refl
