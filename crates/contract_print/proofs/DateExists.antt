-- Each day of the years 1900 to 2999 has a text.
use Rattle.std.proofs.Common.{◌≡◌, ℕ, zero, suc, ◌+◌, ◌-◌, ◌*◌, ◌/◌, ◌%◌, ◌≤◌, ◌<◌, ◌⊎◌, inl, inr, ℤ, pos, neg_ℤ, ◌+ℤ◌, ◌≤ℤ◌, true, cond, List, [], ◌∷◌, refl, ap, subst, ◌∙◌, arith}
use Rattle.std.specs.Prelude.{nat_le, int_le, Option, Some, None, option_and_then, unsigned_abs}
use Rattle.std.proofs.lemmas.Bool.{cases_lt}
use Rattle.std.proofs.lemmas.Bool.Decides.{nat_tests}
use Rattle.jiff_core.specs.Calendar.{days_from_civil, days_in_month, day_count}
use Rattle.jiff_core.proofs.CalendarLemmas.{days_in_month_bounds, days_from_civil-day_count, day_count-lt_year}
use Rattle.jiff_core.proofs.MarchLemmas.{day_count-late, day_count-early}
use Rattle.jiff_core.proofs.DateLemmas.{days_from_civil-day, days_from_civil-next_month, days_from_civil-next_year}
use Rattle.jiff_core.proofs.SignedLemmas.{one_part, signed_arith}
use Rattle.term_model.specs.Limits.{is_origin}
use Rattle.contract_grammar.proofs.EntryFacts.{and_parts}
use Rattle.contract_print.specs.Canon.{IsOriginText, book_text}
use Rattle.contract_print.specs.Laws.{CanonExists}
use Rattle.term_model.specs.Dates.{Parts, digit_of, day_of, epoch_day_of, is_civil, is_digit, parts_of, two_of}

-- a date of the calendar, from 1900 on
record DateOf (day : ℤ) : Type 0 where
  year : ℕ
  month : ℕ
  day' : ℕ
  low : 1900 ≤ year
  month_in : (1 ≤ month) × (month ≤ 12)
  day_in : (1 ≤ day') × (day' ≤ days_in_month (pos year) month)
  is : days_from_civil (pos year) month day' ≡ day

first : days_from_civil (pos 1900) 1 1 ≡ neg_ℤ (pos 25_567)
first = omega (arith, signed_arith, days_from_civil-day_count (pos 1900) 1 1, day_count-early (pos 1900) 11899 1 1 refl (omega arith) (omega arith) (omega arith))

next : (day : ℤ) → DateOf day → DateOf (day +ℤ pos 1)
next day t = by (cases_lt t.day' (days_in_month (pos t.year) t.month)) (cases_lt t.month 12)
  where
    by : (t.day' < days_in_month (pos t.year) t.month) ⊎ (days_in_month (pos t.year) t.month ≤ t.day') → (t.month < 12) ⊎ (12 ≤ t.month) → DateOf (day +ℤ pos 1)
    by (inl more) m = record {
      year = t.year;
      month = t.month;
      day' = t.day' + 1;
      low = t.low;
      month_in = t.month_in;
      day_in = (omega arith, omega arith);
      is = omega (arith, signed_arith, days_from_civil-day (pos t.year) t.month t.day' (t.day' + 1) t.day_in.0 (omega arith), t.is);
    }
    by (inr last) (inl m) = record {
      year = t.year;
      month = t.month + 1;
      day' = 1;
      low = t.low;
      month_in = (omega arith, omega arith);
      day_in = (omega arith, omega (arith, days_in_month_bounds (pos t.year) (t.month + 1)));
      is = days_from_civil-next_month (pos t.year) t.month t.day' t.month_in.0 (omega (arith, t.day_in.1)) ∙ ap (λ (z : ℤ). z +ℤ pos 1) t.is;
    }
    by (inr last) (inr m) =
        let twelve : t.month ≡ 12 = omega (arith, t.month_in.1) in
        let all : days_in_month (pos t.year) t.month ≡ 31 = rw twelve refl in
        let end' : t.day' ≡ 31 = omega (arith, t.day_in.1) in
        let same : days_from_civil (pos t.year) 12 31 ≡ day = rw twelve at (rw end' at t.is) in
        record {
          year = t.year + 1;
          month = 1;
          day' = 1;
          low = omega (arith, t.low);
          month_in = (omega arith, omega arith);
          day_in = (omega arith, omega (arith, days_in_month_bounds (pos (t.year + 1)) 1));
          is = days_from_civil-next_year (pos t.year) (pos (t.year + 1)) (omega (arith, signed_arith)) (omega (arith, signed_arith)) ∙ ap (λ (z : ℤ). z +ℤ pos 1) same;
        }

from_first : (k : ℕ) → DateOf (neg_ℤ (pos 25_567) +ℤ pos k)
from_first zero = record { year = 1900; month = 1; day' = 1; low = omega arith; month_in = (omega arith, omega arith); day_in = (omega arith, omega (arith, days_in_month_bounds (pos 1900) 1)); is = omega (arith, signed_arith, first) }
from_first (suc k) = let at : neg_ℤ (pos 25_567) +ℤ pos k +ℤ pos 1 ≡ neg_ℤ (pos 25_567) +ℤ pos (suc k) = omega (arith, signed_arith) in subst (λ (z : ℤ). DateOf z) at (next (neg_ℤ (pos 25_567) +ℤ pos k) (from_first k))

-- ---- the text of three numbers

digit_back : (x : ℕ) → x ≤ 9 → digit_of (48 + x) ≡ Some x
digit_back x h =
    let digit : is_digit (48 + x) ≡ true = grind (arith, nat_tests) in
    let back : 48 + x - 48 ≡ x = omega arith in
    rw (digit, back) refl

two_back : (x y : ℕ) → x ≤ 9 → y ≤ 9 → two_of (48 + x) (48 + y) ≡ Some (10 * x + y)
unfolding two_of
two_back x y p q = ap (λ o. option_and_then (λ a. option_and_then (λ b. Some (10 * a + b)) (digit_of (48 + y))) o) (digit_back x p) ∙ ap (λ o. option_and_then (λ b. Some (10 * x + b)) o) (digit_back y q)

abbrev text_of_parts : ℕ → ℕ → ℕ → List ℕ
text_of_parts y m d =
    (48 + y / 1000) ∷ (48 + y / 100 % 10) ∷ (48 + y / 10 % 10) ∷ (48 + y % 10) ∷ 45 ∷ (48 + m / 10) ∷ (48 + m % 10) ∷ 45 ∷ (48 + d / 10) ∷ (48 + d % 10) ∷ []

abbrev some_parts : ℕ → ℕ → ℕ → Option Parts
some_parts y m d = Some (record { year = y; month = m; day = d })

abbrev dated : Option ℕ → Option ℕ → Option ℕ → Option ℕ → Option Parts
dated h l m d = option_and_then (λ high. option_and_then (λ low. option_and_then (λ month. option_and_then (λ day. Some (record { year = 100 * high + low; month = month; day = day })) d) m) l) h

parts_back : (y m d : ℕ) → y ≤ 9999 → m ≤ 99 → d ≤ 99 → parts_of (text_of_parts y m d) ≡ Some (record { year = y; month = m; day = d })
unfolding parts_of
parts_back y m d py pm pd =
    ap (λ o. dated o (two_of (48 + y / 10 % 10) (48 + y % 10)) (two_of (48 + m / 10) (48 + m % 10)) (two_of (48 + d / 10) (48 + d % 10))) (two_back (y / 1000) (y / 100 % 10) (omega arith) (omega arith))
    ∙ ap (λ o. dated (Some (10 * (y / 1000) + y / 100 % 10)) o (two_of (48 + m / 10) (48 + m % 10)) (two_of (48 + d / 10) (48 + d % 10))) (two_back (y / 10 % 10) (y % 10) (omega arith) (omega arith))
    ∙ ap (λ o. dated (Some (10 * (y / 1000) + y / 100 % 10)) (Some (10 * (y / 10 % 10) + y % 10)) o (two_of (48 + d / 10) (48 + d % 10))) (two_back (m / 10) (m % 10) (omega arith) (omega arith))
    ∙ ap (λ o. dated (Some (10 * (y / 1000) + y / 100 % 10)) (Some (10 * (y / 10 % 10) + y % 10)) (Some (10 * (m / 10) + m % 10)) o) (two_back (d / 10) (d % 10) (omega arith) (omega arith))
    ∙ together
  where
    together : some_parts (100 * (10 * (y / 1000) + y / 100 % 10) + (10 * (y / 10 % 10) + y % 10)) (10 * (m / 10) + m % 10) (10 * (d / 10) + d % 10) ≡ some_parts y m d
    together =
        let year : 100 * (10 * (y / 1000) + y / 100 % 10) + (10 * (y / 10 % 10) + y % 10) ≡ y = omega arith in
        let month : 10 * (m / 10) + m % 10 ≡ m = omega arith in
        let day : 10 * (d / 10) + d % 10 ≡ d = omega arith in
        rw (year, month, day) refl

le_test : (a b : ℕ) → a ≤ b → nat_le a b ≡ true
le_test a b h = grind (arith, nat_tests)

text_exists : (day : ℤ) → DateOf day → ((t : DateOf day) → t.year ≤ 9999) → (date : List ℕ) × (epoch_day_of date ≡ Some day)
unfolding epoch_day_of
text_exists day t most =
    let p : Parts = record { year = t.year; month = t.month; day = t.day' } in
    let high : t.day' ≤ 99 = omega (arith, t.day_in.1, days_in_month_bounds (pos t.year) t.month) in
    let is_p = parts_back t.year t.month t.day' (most t) (omega (arith, t.month_in.1)) high in
    let civil : is_civil p ≡ true = rw (le_test 1 t.year (omega (arith, t.low)), le_test 1 t.month t.month_in.0, le_test t.month 12 t.month_in.1, le_test 1 t.day' t.day_in.0, le_test t.day' (days_in_month (pos t.year) t.month) t.day_in.1) refl in (
      text_of_parts t.year t.month t.day',
      ap (option_and_then day_of) is_p ∙ ap (λ b. cond b (Some (days_from_civil (pos t.year) t.month t.day')) None) civil ∙ ap (λ (z : ℤ). Some z) t.is,
    )

last_day : day_count (pos 2999) 12 31 ≡ 4_748_152
last_day = day_count-late (pos 2999) 12999 12 31 refl (omega arith) (omega arith) (omega arith)

early : (day : ℤ) → day ≤ℤ pos 376_199 → (t : DateOf day) → t.year ≤ 9999
early day within t = by (cases_lt 2999 t.year)
  where
    by : (2999 < t.year) ⊎ (t.year ≤ 2999) → t.year ≤ 9999
    by (inr few) = omega arith
    by (inl many) =
        let later = day_count-lt_year (pos 2999) 12 31 (pos t.year) t.month t.day' ((omega (arith, signed_arith), omega (arith, signed_arith)), (omega arith, omega arith), (omega arith, omega arith)) t.day_in.0 (omega (arith, signed_arith)) in
        absurd (omega (arith, signed_arith, later, last_day, t.is, days_from_civil-day_count (pos t.year) t.month t.day'))

counted_on : (day : ℤ) → neg_ℤ (pos 25_567) ≤ℤ day → neg_ℤ (pos 25_567) +ℤ pos (unsigned_abs (day +ℤ pos 25_567)) ≡ day
counted_on day low = omega (arith, signed_arith, one_part (day +ℤ pos 25_567))

le_from : (a b : ℤ) → int_le a b ≡ true → a ≤ℤ b
le_from a b h = grind (arith, nat_tests)

-- an origin has a date's text
pub date_exists : (origin : Option ℤ) → is_origin origin ≡ true → (date : List ℕ) × IsOriginText origin date
date_exists None within = ([], tt)
date_exists (Some day) within =
    let p = and_parts (int_le (neg_ℤ (pos 25_567)) day) (int_le day (pos 376_199)) within in
    let low = le_from (neg_ℤ (pos 25_567)) day p.0 in
    let high = le_from day (pos 376_199) p.1 in
    let t = subst (λ (z : ℤ). DateOf z) (counted_on day low) (from_first (unsigned_abs (day +ℤ pos 25_567))) in
    text_exists day t (early day high)

pub canon_exists : CanonExists
canon_exists b fits = let d = date_exists b.declarations.origin fits.declarations.origin in (book_text d.0 b, record { date = d.0; is_date = d.1; is = refl })
