use Rattle.std.proofs.Common.{◌∙◌, ap, arith, w8, w16, w32, w64}
use Rattle.std.specs.Prelude.{FitsSigned}
use Rattle.std.proofs.lemmas.Int.{ints, to_z-of_z, to_z_pos}
use Rattle.jiff_core.specs.Date.{epoch_day}
use Rattle.term_model.proofs.DateFacts.{day_is}
use Rattle.term_model.proofs.dates.day_number.Goals as goal

pub returns-in-Ok : goal.returns-in-Ok
returns-in-Ok c =
    let p = c.args.p in
    let value = c.in-Ok.ensures.value in
    let r = c.to_unix_epoch_day.result in
    let bound = c.to_unix_epoch_day.ensures.bound in
    let fits32 : FitsSigned w32 r = omega (arith, ints) in
    let fits64 : FitsSigned w64 r = omega (arith, ints) in
    let year = value.0 ∙ to_z_pos w16 p.year (omega arith) in
    let month = value.1 ∙ to_z_pos w8 p.month (omega arith) in
    let day = value.2 ∙ to_z_pos w8 p.day (omega arith) in
    let number = c.to_unix_epoch_day.ensures.value ∙ ap epoch_day c.to_plain.ensures in
    simp to_z-of_z (day_is p.year p.month p.day c.in-Ok.date r (omega arith) (year, month, day) number)
