-- The laws of dates: a day has one text of the form `dddd-dd-dd`, and it is a day of the years 0001 to 9999. So the day
-- of a text and the text of a day are inverse to each other.
use Rattle.std.specs.Prelude.{ℕ, ℤ, pos, neg_ℤ, ◌≡◌, List, Some}
use Rattle.jiff_core.specs.Calendar.{IsBetween}
use Rattle.term_model.specs.Dates.{epoch_day_of}

abbrev pub TextsOfDaysAreUnique : Type 0
TextsOfDaysAreUnique =
    (text other : List ℕ) (day : ℤ) → epoch_day_of text ≡ Some day → epoch_day_of other ≡ Some day → text ≡ other

abbrev pub DaysOfTextsAreCivil : Type 0
DaysOfTextsAreCivil =
    (text : List ℕ) (day : ℤ) → epoch_day_of text ≡ Some day → IsBetween (neg_ℤ (pos 719_162)) (pos 2_932_896) day
