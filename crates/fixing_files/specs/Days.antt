-- The day that a text names: a number of days after the origin, as an optional minus and one to nine digits, or a civil
-- date `dddd-dd-dd`, whose day is its distance from the origin.
use Rattle.std.specs.Prelude.{ℕ, ℤ, pos, neg_ℤ, ◌-ℤ◌, ◌==◌, nat_le, List, [], ◌∷◌, length, Option, Some, None, option_map, Result, Ok, Err, if◌then◌else◌}
use Rattle.decimal.specs.Reading.{digits_of}
use Rattle.term_model.specs.Dates.{epoch_day_of}
use Rattle.fixing_files.specs.declared.days.DayFault.{DayFault}
use Rattle.fixing_files.specs.declared.days.DayFault.TheVariants.{NotDay, NoOrigin}
use Rattle.fixing_files.specs.declared.days.NamedDay.{NamedDay}
use Rattle.fixing_files.specs.declared.days.NamedDay.TheVariants.{Number, Date}

-- the number of one to nine digits
abbrev pub count_of : List ℕ → Option ℕ
count_of text = if nat_le (length text) 9 then digits_of text else None

-- the same with an optional minus before them
abbrev pub number_of : List ℕ → Option ℤ
number_of [] = None
number_of (b ∷ rest) =
    if b == 45 then option_map (λ n. neg_ℤ (pos n)) (count_of rest) else option_map (λ n. pos n) (count_of (b ∷ rest))

abbrev pub named_by : Option ℤ → Option ℤ → Option NamedDay
named_by (Some n) date = Some (Number n)
named_by None date = option_map (λ day. Date day) date

-- what a text names: a number of days, or a date by its epoch day
unfoldable pub day_named : List ℕ → Option NamedDay
day_named text = named_by (number_of text) (epoch_day_of text)

-- the day that is named, by the epoch day of the origin, where there is one
abbrev pub placed_day : Option ℤ → NamedDay → Result ℤ DayFault
placed_day origin (Number day) = Ok day
placed_day None (Date day) = Err NoOrigin
placed_day (Some origin) (Date day) = Ok (day -ℤ origin)

abbrev pub placed_if_named : Option ℤ → Option NamedDay → Result ℤ DayFault
placed_if_named origin None = Err NotDay
placed_if_named origin (Some named) = placed_day origin named

-- the day of a text
unfoldable pub day_of : Option ℤ → List ℕ → Result ℤ DayFault
day_of origin text = placed_if_named origin (day_named text)
