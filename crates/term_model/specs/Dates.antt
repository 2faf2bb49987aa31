-- Days of the calendar as texts `dddd-dd-dd`, by the number of days since 1970-01-01. A text has a day where it names a
-- date of the proleptic Gregorian calendar in the years 0001 to 9999; which dates there are, jiff decides.
use Rattle.std.specs.Prelude.{ℕ, ◌+◌, ◌*◌, ◌-◌, ◌==◌, ◌&&◌, Bool, List, [], ◌∷◌, Option, Some, None, option_and_then, nat_le, if◌then◌else◌, ℤ, pos}
pub use Rattle.decimal.specs.Reading.{is_digit}
use Rattle.jiff_core.specs.Calendar.{days_from_civil, days_in_month}

-- a year, a month and a day
pub record Parts : Type 0 where
  pub year : ℕ
  pub month : ℕ
  pub day : ℕ

infixl 10 ◌>>=◌
abbrev pub ◌>>=◌ : {A B : Type 0} → Option A → (A → Option B) → Option B
o >>= f = option_and_then f o

abbrev pub digit_of : ℕ → Option ℕ
digit_of b = if is_digit b then Some (b - 48) else None

unfoldable pub two_of : ℕ → ℕ → Option ℕ
two_of a b = do
  x ← digit_of a
  y ← digit_of b
  Some (10 * x + y)

-- the numbers of a text `dddd-dd-dd`
unfoldable pub parts_of : List ℕ → Option Parts
parts_of (a ∷ b ∷ c ∷ d ∷ h ∷ e ∷ f ∷ i ∷ g ∷ j ∷ []) = do
  high ← two_of a b
  low ← two_of c d
  month ← two_of e f
  day ← two_of g j
  if (h == 45) && (i == 45) then Some (record { year = 100 * high + low; month = month; day = day }) else None
parts_of _ = None

-- the calendar has the day, in a year from 1 on
abbrev pub is_civil : Parts → Bool
is_civil p =
    nat_le 1 p.year
    && (nat_le 1 p.month && (nat_le p.month 12
    && (nat_le 1 p.day && nat_le p.day (days_in_month (pos p.year) p.month))))

abbrev pub day_of : Parts → Option ℤ
day_of p = if is_civil p then Some (days_from_civil (pos p.year) p.month p.day) else None

-- the day number of a text, if it names a civil date of the years 0001 to 9999
unfoldable pub epoch_day_of : List ℕ → Option ℤ
epoch_day_of text = option_and_then day_of (parts_of text)
