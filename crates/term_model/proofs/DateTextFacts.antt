-- A day has one text.
use Rattle.std.proofs.Common.{◌≡◌, ℕ, ℤ, pos, neg_ℤ, ◌≤ℤ◌, ◌≤◌, ◌+◌, ◌-◌, ◌*◌, ◌/◌, ◌%◌, Bool, true, false, ◌&&◌, ◌==◌, nat_le, if◌then◌else◌, List, [], ◌∷◌, Option, Some, None, option_and_then, refl, ap, ap₂, sym, ◌∙◌, arith, rules, inl, inr}
use Rattle.std.proofs.lemmas.Int.{ints}
use Rattle.std.proofs.lemmas.Bool.Decides.{nat_tests}
use Rattle.jiff_core.specs.Calendar.{days_from_civil, days_in_month}
use Rattle.jiff_core.specs.Date.{epoch_day}
use Rattle.jiff_core.specs.declared.civil.date.Date.{Date}
use Rattle.jiff_core.proofs.DateLemmas.{epoch_day_injective, epoch_day_same, epoch_day_range, epoch_day-lt, IsEarlier, cases_date}
use Rattle.jiff_core.proofs.SignedLemmas.{signed_arith}
use Rattle.jiff_core.proofs.CalendarLemmas.{days_from_civil-day_count}
use Rattle.term_model.proofs.DateFacts.{first_day}
use Rattle.term_model.proofs.AlikeFacts.{and_left, and_right}
use Rattle.term_model.specs.Dates.{Parts, is_digit, digit_of, two_of, parts_of, is_civil, day_of, epoch_day_of}
use Rattle.term_model.specs.LawsDates.{TextsOfDaysAreUnique, DaysOfTextsAreCivil}

digit_is : (b x : ℕ) (t : Bool) → is_digit b ≡ t → (if t then Some (b - 48) else None) ≡ Some x → (b ≡ 48 + x) × (x ≤ 9)
digit_is b x true e h =
    let v : b - 48 ≡ x = cc in
    grind (arith, nat_tests)
digit_is b x false e h = absurd (cc)

-- two digits have one number, and the number has no other digits
pub record IsTwo (a b n : ℕ) : Type 0 where
  pub high : a ≡ 48 + n / 10
  pub low : b ≡ 48 + n % 10
  pub most : n ≤ 99

two_digits : (a b n : ℕ) (o p : Option ℕ) → ((x : ℕ) → o ≡ Some x → (a ≡ 48 + x) × (x ≤ 9)) → ((x : ℕ) → p ≡ Some x → (b ≡ 48 + x) × (x ≤ 9)) → option_and_then (λ x. option_and_then (λ y. Some (10 * x + y)) p) o ≡ Some n → IsTwo a b n
two_digits a b n (Some x) (Some y) h k e =
    let v : 10 * x + y ≡ n = cc in
    let hx = h x refl in
    let ky = k y refl in
    record { high = omega arith; low = omega arith; most = omega arith }
two_digits a b n (Some x) None h k e = absurd (cc)
two_digits a b n None p h k e = absurd (cc)

two_is : (a b n : ℕ) → two_of a b ≡ Some n → IsTwo a b n
unfolding two_of
two_is a b n h =
    two_digits a b n (digit_of a) (digit_of b) (λ x e. digit_is a x (is_digit a) refl e) (λ x e. digit_is b x (is_digit b) refl e) h

-- the text of three numbers
abbrev text : Parts → List ℕ
text p =
    (48 + p.year / 100 / 10) ∷ (48 + p.year / 100 % 10) ∷ (48 + p.year % 100 / 10) ∷ (48 + p.year % 100 % 10) ∷ 45
    ∷ (48 + p.month / 10) ∷ (48 + p.month % 10) ∷ 45 ∷ (48 + p.day / 10) ∷ (48 + p.day % 10) ∷ []

pub record IsDated (s : List ℕ) (p : Parts) : Type 0 where
  pub same : s ≡ text p
  pub most : p.year ≤ 9999

dashes : (h i : ℕ) → ((h == 45) && (i == 45)) ≡ true → (h ≡ 45) × (i ≡ 45)
dashes h i e = (grind (arith, nat_tests), grind (arith, nat_tests))

year_high : (x y : ℕ) → y ≤ 99 → (100 * x + y) / 100 ≡ x
year_high x y h = omega arith

year_low : (x y : ℕ) → y ≤ 99 → (100 * x + y) % 100 ≡ y
year_low x y h = omega arith

put_together : (a b c d h e f i g j x y z w : ℕ) (p : Parts) → (h ≡ 45) × (i ≡ 45) → IsTwo a b x → IsTwo c d y → IsTwo e f z → IsTwo g j w → p.year ≡ 100 * x + y → p.month ≡ z → p.day ≡ w → IsDated (a ∷ b ∷ c ∷ d ∷ h ∷ e ∷ f ∷ i ∷ g ∷ j ∷ []) p
put_together a b c d h e f i g j x y z w p marks tx ty tz tw year month day =
    let high : p.year / 100 ≡ x = ap (λ (n : ℕ). n / 100) year ∙ year_high x y ty.most in
    let low : p.year % 100 ≡ y = ap (λ (n : ℕ). n % 100) year ∙ year_low x y ty.most in
    let ea : a ≡ 48 + p.year / 100 / 10 = tx.high ∙ ap (λ (n : ℕ). 48 + n / 10) (sym high) in
    let eb : b ≡ 48 + p.year / 100 % 10 = tx.low ∙ ap (λ (n : ℕ). 48 + n % 10) (sym high) in
    let ec : c ≡ 48 + p.year % 100 / 10 = ty.high ∙ ap (λ (n : ℕ). 48 + n / 10) (sym low) in
    let ed : d ≡ 48 + p.year % 100 % 10 = ty.low ∙ ap (λ (n : ℕ). 48 + n % 10) (sym low) in
    let ee : e ≡ 48 + p.month / 10 = tz.high ∙ ap (λ (n : ℕ). 48 + n / 10) (sym month) in
    let ef : f ≡ 48 + p.month % 10 = tz.low ∙ ap (λ (n : ℕ). 48 + n % 10) (sym month) in
    let eg : g ≡ 48 + p.day / 10 = tw.high ∙ ap (λ (n : ℕ). 48 + n / 10) (sym day) in
    let ej : j ≡ 48 + p.day % 10 = tw.low ∙ ap (λ (n : ℕ). 48 + n % 10) (sym day) in
    record { same = cc (marks.0, marks.1); most = omega (arith, tx.most, ty.most) }

dated : (a b c d h e f i g j : ℕ) (o1 o2 o3 o4 : Option ℕ) (t : Bool) (p : Parts) → ((h == 45) && (i == 45)) ≡ t → ((x : ℕ) → o1 ≡ Some x → IsTwo a b x) → ((x : ℕ) → o2 ≡ Some x → IsTwo c d x) → ((x : ℕ) → o3 ≡ Some x → IsTwo e f x) → ((x : ℕ) → o4 ≡ Some x → IsTwo g j x) → option_and_then (λ high. option_and_then (λ low. option_and_then (λ month. option_and_then (λ day. if t then Some (record { year = 100 * high + low; month = month; day = day }) else None) o4) o3) o2) o1 ≡ Some p → IsDated (a ∷ b ∷ c ∷ d ∷ h ∷ e ∷ f ∷ i ∷ g ∷ j ∷ []) p
dated a b c d h e f i g j (Some x) (Some y) (Some z) (Some w) true p m h1 h2 h3 h4 q =
    let r : Parts = record { year = 100 * x + y; month = z; day = w } in
    let same : r ≡ p = cc in
    put_together a b c d h e f i g j x y z w p (dashes h i m) (h1 x refl) (h2 y refl) (h3 z refl) (h4 w refl) (sym (ap (λ (v : Parts). v.year) same)) (sym (ap (λ (v : Parts). v.month) same)) (sym (ap (λ (v : Parts). v.day) same))
dated a b c d h e f i g j (Some x) (Some y) (Some z) (Some w) false p m h1 h2 h3 h4 q = absurd (cc)
dated a b c d h e f i g j (Some x) (Some y) (Some z) None t p m h1 h2 h3 h4 q = absurd (cc)
dated a b c d h e f i g j (Some x) (Some y) None o4 t p m h1 h2 h3 h4 q = absurd (cc)
dated a b c d h e f i g j (Some x) None o3 o4 t p m h1 h2 h3 h4 q = absurd (cc)
dated a b c d h e f i g j None o2 o3 o4 t p m h1 h2 h3 h4 q = absurd (cc)

parts_is : (s : List ℕ) (p : Parts) → parts_of s ≡ Some p → IsDated s p
unfolding parts_of
parts_is (a ∷ b ∷ c ∷ d ∷ h ∷ e ∷ f ∷ i ∷ g ∷ j ∷ []) p q =
    dated a b c d h e f i g j (two_of a b) (two_of c d) (two_of e f) (two_of g j) ((h == 45) && (i == 45)) p refl (λ x r. two_is a b x r) (λ x r. two_is c d x r) (λ x r. two_is e f x r) (λ x r. two_is g j x r) q
parts_is _ p q = absurd (cc)

-- the calendar's date of the numbers
pub record HasDate (p : Parts) (day : ℤ) : Type 0 where
  pub date : Date
  pub year : date.year ≡ pos p.year
  pub month : date.month ≡ p.month
  pub day_is : date.day ≡ p.day
  pub number : epoch_day date ≡ day
  pub civil : 1 ≤ p.year

pub record IsCivil (p : Parts) : Type 0 where
  pub year : 1 ≤ p.year
  pub month : (1 ≤ p.month) × (p.month ≤ 12)
  pub day : (1 ≤ p.day) × (p.day ≤ days_in_month (pos p.year) p.month)

le_from : (a b : ℕ) → nat_le a b ≡ true → a ≤ b
le_from a b h = grind (arith, nat_tests)

civil_is : (p : Parts) → is_civil p ≡ true → IsCivil p
civil_is p h =
    let one = nat_le 1 p.year in
    let from_month = and_right one (nat_le 1 p.month && (nat_le p.month 12 && (nat_le 1 p.day && nat_le p.day (days_in_month (pos p.year) p.month)))) h in
    let to_month = and_right (nat_le 1 p.month) (nat_le p.month 12 && (nat_le 1 p.day && nat_le p.day (days_in_month (pos p.year) p.month))) from_month in
    let days = and_right (nat_le p.month 12) (nat_le 1 p.day && nat_le p.day (days_in_month (pos p.year) p.month)) to_month in
    record {
      year = le_from 1 p.year (and_left one _ h);
      month = (le_from 1 p.month (and_left (nat_le 1 p.month) _ from_month), le_from p.month 12 (and_left (nat_le p.month 12) _ to_month));
      day = (le_from 1 p.day (and_left (nat_le 1 p.day) _ days), le_from p.day (days_in_month (pos p.year) p.month) (and_right (nat_le 1 p.day) _ days));
    }

date_is : (p : Parts) (day : ℤ) → p.year ≤ 9999 → IsCivil p → days_from_civil (pos p.year) p.month p.day ≡ day → HasDate p day
date_is p day most c h =
    record {
      date = record { year = pos p.year; month = p.month; day = p.day; year_in = (omega (arith, ints), omega (arith, ints)); month_in = c.month; day_in = c.day };
      year = refl;
      month = refl;
      day_is = refl;
      number = h;
      civil = c.year;
    }

day_is : (p : Parts) (day : ℤ) (t : Bool) → p.year ≤ 9999 → is_civil p ≡ t → (if t then Some (days_from_civil (pos p.year) p.month p.day) else None) ≡ Some day → HasDate p day
day_is p day true most e h = date_is p day most (civil_is p e) (cc)
day_is p day false most e h = absurd (cc)

abbrev pub HasText : List ℕ → ℤ → Type 0
HasText s day = (p : Parts) × IsDated s p × HasDate p day

of_parts : (s : List ℕ) (day : ℤ) (o : Option Parts) → parts_of s ≡ o → option_and_then day_of o ≡ Some day → HasText s day
of_parts s day (Some p) e h =
    let dated : IsDated s p = parts_is s p e in
    (p, dated, day_is p day (is_civil p) dated.most refl h)
of_parts s day None e h = absurd (cc)

pub has_text : (s : List ℕ) (day : ℤ) → epoch_day_of s ≡ Some day → HasText s day
unfolding epoch_day_of
has_text s day h = of_parts s day (parts_of s) refl h

pos_same : (m n : ℕ) → pos m ≡ pos n → m ≡ n
pos_same m n h = cc

pub texts_unique : TextsOfDaysAreUnique
texts_unique s t day h k =
    let one = has_text s day h in
    let two = has_text t day k in
    let p = one.0 in
    let q = two.0 in
    let a = one.2 in
    let b = two.2 in
    let same = epoch_day_injective a.date b.date (a.number ∙ sym b.number) in
    let year : p.year ≡ q.year = pos_same p.year q.year (sym a.year ∙ same.0 ∙ b.year) in
    let month : p.month ≡ q.month = sym a.month ∙ same.1 ∙ b.month in
    let day : p.day ≡ q.day = sym a.day_is ∙ same.2 ∙ b.day_is in
    let place : ℕ → ℕ → ℕ → Parts = λ y m n. record { year = y; month = m; day = n } in
    let parts : p ≡ q = ap₂ (λ (y m : ℕ). place y m p.day) year month ∙ ap (place q.year q.month) day in
    one.1.same ∙ ap text parts ∙ sym two.1.same

first_date : Date
first_date = record { year = pos 1; month = 1; day = 1; year_in = search rules; month_in = search rules; day_in = search rules }

first_number : epoch_day first_date ≡ neg_ℤ (pos 719_162)
unfolding first_date
first_number = omega (arith, signed_arith, days_from_civil-day_count (pos 1) 1 1, first_day)

not_earlier : (d : Date) → pos 1 ≤ℤ d.year → IsEarlier d first_date → ⊥
unfolding first_date
not_earlier d h (inl year) = omega (arith, ints)
not_earlier d h (inr (year, inl month)) = omega (arith, d.month_in.0)
not_earlier d h (inr (year, inr day)) = omega (arith, d.day_in.0, day.1)

from_first : (d : Date) → pos 1 ≤ℤ d.year → neg_ℤ (pos 719_162) ≤ℤ epoch_day d
from_first d h =
    elim (cases_date d first_date) [
      | inl early ↦ absurd (not_earlier d h early)
      | inr (inl late) ↦ omega (arith, signed_arith, epoch_day-lt first_date d late, first_number)
      | inr (inr same) ↦ omega (arith, signed_arith, epoch_day_same d first_date same.0 same.1 same.2, first_number)
    ]

pub days_civil : DaysOfTextsAreCivil
days_civil s day h =
    let one = has_text s day h in
    let a = one.2 in
    let after : pos 1 ≤ℤ a.date.year = rw a.year (omega (arith, ints, one.2.civil)) in
    (rw (← a.number) (from_first a.date after), rw (← a.number) (epoch_day_range a.date).1)
