-- Dates of payoff code, counted from the base: a whole number of days, and templates whose days are added (the template
-- expressions of Annenkov and Elsman, PPDP 2018). A template may count more than once; templates stand in rising order.
use Rattle.std.specs.Prelude.{ℕ, ℤ, pos, ◌+ℤ◌, ◌≤◌, List, [], ◌∷◌, nat_le, if◌then◌else◌}
pub use Rattle.term_model.specs.Instances.{sum_at}
use Rattle.term_model.specs.DayCounts.{Days}
use Rattle.term_model.specs.DayCounts.{Num as Count, Named, Sum}
use Rattle.payoff_terms.specs.declared.code.DateExpr.{DateExpr}

pub record Date : Type 0 where
  pub days : ℤ
  pub names : List ℕ

-- what the program's date stands for
abbrev pub date : DateExpr → Date
date x = record { days = x.days; names = x.names.items }

-- the day of a date at a setting
abbrev pub day_of : List ℕ → Date → ℤ
day_of xs q = q.days +ℤ pos (sum_at xs q.names)

-- numbers that rise from a first one on, each as often as it stands there
abbrev pub AreInOrderFrom : ℕ → List ℕ → Type 0
AreInOrderFrom low [] = Unit {0}
AreInOrderFrom low (t ∷ ts) = (low ≤ t) × AreInOrderFrom t ts

abbrev pub AreInOrder : List ℕ → Type 0
AreInOrder ts = AreInOrderFrom 0 ts

-- one more template, in rising order
abbrev pub insert_name : ℕ → List ℕ → List ℕ
insert_name t [] = t ∷ []
insert_name t (u ∷ us) = if nat_le t u then t ∷ u ∷ us else u ∷ insert_name t us

abbrev pub insert_names : List ℕ → List ℕ → List ℕ
insert_names [] us = us
insert_names (t ∷ ts) us = insert_name t (insert_names ts us)

-- a day count as a date
abbrev pub date_of_days : Days → Date
date_of_days (Count n) = record { days = pos n; names = [] }
date_of_days (Named t) = record { days = pos 0; names = t ∷ [] }
date_of_days (Sum n ts) = record { days = pos n; names = insert_names ts [] }

-- the first date, and then as many days as the second has
abbrev pub plus : Date → Date → Date
plus q r = record { days = q.days +ℤ r.days; names = insert_names r.names q.names }

abbrev pub plus_days : Date → ℤ → Date
plus_days q t = record { days = q.days +ℤ t; names = q.names }

abbrev pub no_date : Date
no_date = record { days = pos 0; names = [] }
