-- Days of the calendar.
use Rattle.std.proofs.Common.{neg_ℤ, ◌≤ℤ◌, ◌≡◌, ℕ, ◌≤◌, true, Some, pos, refl, ap, ◌∙◌, arith}
use Rattle.std.proofs.lemmas.Int.{ints, by_lt_z}
use Rattle.jiff_core.proofs.SignedLemmas.{signed_arith}
use Rattle.jiff_core.proofs.MarchLemmas.{day_count-early}
use Rattle.jiff_core.proofs.CalendarLemmas.{days_from_civil-day_count, day_count-lt_year}
use Rattle.jiff_core.proofs.DateLemmas.{civil as civil_date}
use Rattle.std.proofs.lemmas.Bool.Decides.{nat_tests}
use Rattle.std.specs.Prelude.{ℤ, nat_le}
use Rattle.std.specs.Int.{IsInRange}
use Rattle.jiff_core.specs.Calendar.{day_count, days_in_month}
use Rattle.jiff_core.specs.Date.{epoch_day, IsYmd}
use Rattle.jiff_core.specs.declared.civil.date.Date.{Date}
use Rattle.term_model.specs.Dates.{day_of, is_civil}

le-true : (a b : ℕ) → a ≤ b → nat_le a b ≡ true
le-true a b h = grind (arith, nat_tests)

civil : (y m d : ℕ) → 1 ≤ y → IsInRange 1 12 m → IsInRange 1 (days_in_month (pos y) m) d → is_civil (record { year = y; month = m; day = d }) ≡ true
civil y m d year month day =
    rw (le-true 1 y year, le-true 1 m (omega arith), le-true m 12 (omega arith), le-true 1 d (omega arith), le-true d (days_in_month (pos y) m) (omega arith)) refl

pub day_is : (y m d : ℕ) (date : Date) (r : ℤ) → 1 ≤ y → IsYmd (pos y) (pos m) (pos d) date → r ≡ epoch_day date → Some r ≡ day_of (record { year = y; month = m; day = d })
day_is y m d date r year is number =
    let month : date.month ≡ m = omega (arith, ints, is.1) in
    let day : date.day ≡ d = omega (arith, ints, is.2) in
    let ok = civil y m d year (rw month at date.month_in) (rw (is.0, month, day) at date.day_in) in
    rw ok (ap (λ z. Some z) (number ∙ rw (is.0, month, day) refl))

pub first_day : day_count (pos 1) 1 1 ≡ 3_652_791
first_day = day_count-early (pos 1) 10000 1 1 refl (omega arith) (omega arith) (omega arith)

-- a day from 0001-01-01 on is of a year from 1 on
pub year_from : (d : Date) → neg_ℤ (pos 719_162) ≤ℤ epoch_day d → pos 1 ≤ℤ d.year
year_from d h = by_lt_z d.year (pos 1)
    (λ lt. absurd (omega (arith, signed_arith, days_from_civil-day_count d.year d.month d.day, day_count-lt_year d.year d.month d.day (pos 1) 1 1 (civil_date d) (omega arith) lt, first_day)))
    (λ le. le)
