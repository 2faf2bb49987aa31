-- Counts of days by their contents: a number, the name of a template, or a number to which the numbers of templates are
-- added, each as often as it stands there.
use Rattle.std.specs.Prelude.{ℕ, List}
use Rattle.term_model.specs.declared.terms.Days.{Days as Days'}
use Rattle.term_model.specs.declared.terms.Days.TheVariants.{Num as Num', Named as Named', Sum as Sum'}

pub data Days : Type 0 where
  Num : (days : ℕ) → Days
  Named : (template : ℕ) → Days
  Sum : (days : ℕ) (names : List ℕ) → Days

-- what the program's day count stands for
abbrev pub day_count : Days' → Days
day_count (Num' n) = Num n
day_count (Named' t) = Named t
day_count (Sum' sum) = Sum sum.days sum.names.items
