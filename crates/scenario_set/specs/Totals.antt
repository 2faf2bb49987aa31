-- What code is worth in the scenarios of a set, the total of these values, and the first scenarios of the least and the
-- greatest. Each value is that of the code at the start, by a curve, where payments gone by count with their face value, at
-- nine decimals more than the portfolio's.
use Rattle.std.specs.Prelude.{All, ◌≡◌, ◌≤◌, ◌<◌, ◌≤ℤ◌, ◌<ℤ◌, ◌+ℤ◌, ◌*◌, ℕ, ℤ, pos, List}
use Rattle.std.specs.Prelude.{[], ◌∷◌, length, map, Option, Some, None, Result, Ok, Err, slice_get, slice_index_or}
use Rattle.decimal.specs.declared.rounding.Mode.{Mode}
use Rattle.decimal.specs.Rounding.{divided}
use Rattle.term_model.specs.declared.settings.Setting.{Setting}
use Rattle.term_model.specs.Environments.{Environment, Place}
use Rattle.term_model.specs.Factors.{CurveRow}
use Rattle.term_model.specs.Limits.{greatest_mantissa}
use Rattle.term_model.specs.Reads.{first_unfixed}
use Rattle.interval_check.specs.Safety.{IsSmall}
use Rattle.payoff_terms.specs.CodeBooks.{CodeBook, code_book}
use Rattle.payoff_terms.specs.CodeReads.{reads_of_code}
use Rattle.payoff_terms.specs.CodeTotals.{aligned_code_total}
use Rattle.payoff_terms.specs.CodeValues.{Asked}
use Rattle.payoff_terms.specs.declared.code_file.CodeFile.{CodeFile}
use Rattle.payoff_eval.specs.CodeAnswers.{aligned_value}
use Rattle.payoff_eval.specs.Questions.{CanBeValued, IsQuestion, asked_on}
use Rattle.scenario_set.specs.Scenarios.{NamedMap}
use Rattle.scenario_set.specs.declared.outcomes.Totals.{Totals}
use Rattle.scenario_set.specs.declared.outcomes.TotalsErr.{TotalsErr}
use Rattle.scenario_set.specs.declared.outcomes.TotalsErr.TheVariants.{TooMany, Missing, NoMemory}

-- the value in a map
abbrev pub worth_in : CodeBook → List ℕ → Asked → Environment → ℤ
worth_in b xs a env = aligned_value b.declarations b.code env xs a (pos b.declarations.start)

abbrev pub values_in : CodeBook → List ℕ → Asked → List NamedMap → List ℤ
values_in b xs a set = map (λ s. worth_in b xs a s.map) set

-- the first place that is read in a map and not fixed
abbrev pub lacked_in : CodeBook → List ℕ → Asked → Environment → Option Place
lacked_in b xs a env = first_unfixed env (reads_of_code b.declarations b.code [] [] env xs a (pos b.declarations.start))

-- the sum of values
abbrev pub total_of : List ℤ → ℤ
total_of [] = pos 0
total_of (v ∷ vs) = v +ℤ total_of vs

-- the value of this number
abbrev pub value_at : List ℤ → ℕ → ℤ
value_at values i = slice_index_or values i (pos 0)

-- value i is least, and the first of its size
pub record IsFirstLeast (values : List ℤ) (i : ℕ) : Type 0 where
  pub within : i < length values
  pub least : (j : ℕ) → j < length values → value_at values i ≤ℤ value_at values j
  pub first : (j : ℕ) → j < i → value_at values i <ℤ value_at values j

-- value i is greatest, and the first of its size
pub record IsFirstGreatest (values : List ℤ) (i : ℕ) : Type 0 where
  pub within : i < length values
  pub greatest : (j : ℕ) → j < length values → value_at values j ≤ℤ value_at values i
  pub first : (j : ℕ) → j < i → value_at values j <ℤ value_at values i

-- what is asked of a set: a code file at a setting, on a day, between parties in an asset, by a curve
pub record Inquiry : Type 0 where
  pub book : CodeBook
  pub setting : List ℕ
  pub asked : Asked

abbrev pub inquiry_of : CodeFile → Setting → List CurveRow → ℤ → ℕ → ℕ → ℕ → Inquiry
inquiry_of file setting curve at from to asset =
    record { book = code_book file; setting = setting.days.items; asked = asked_on curve at from to asset }

-- the code can be valued at the setting, and what is asked of it is a question
pub record CanBeAsked (q : Inquiry) : Type 0 where
  pub code : CanBeValued q.book q.setting
  pub question : IsQuestion q.book.declarations q.asked

-- scenario i reads no place that is not fixed
pub record IsFixedIn (q : Inquiry) (set : List NamedMap) (i : ℕ) : Type 0 where
  pub scenario : NamedMap
  pub stands : slice_get set i ≡ Some scenario
  pub fixed : lacked_in q.book q.setting q.asked scenario.map ≡ None

-- scenario i first reads this place that is not fixed
pub record LacksIn (q : Inquiry) (set : List NamedMap) (i : ℕ) (place : Place) : Type 0 where
  pub scenario : NamedMap
  pub stands : slice_get set i ≡ Some scenario
  pub lacked : lacked_in q.book q.setting q.asked scenario.map ≡ Some place

-- the most that the code can be worth in size
abbrev pub most_worth : Inquiry → ℕ
most_worth q = aligned_code_total q.book.declarations q.book.code []

-- so many scenarios can add up to more than a mantissa
abbrev pub AreTooMany : Inquiry → List NamedMap → Type 0
AreTooMany q set = greatest_mantissa < length set * most_worth q

-- and so many cannot
abbrev pub AreFew : Inquiry → List NamedMap → Type 0
AreFew q set = length set * most_worth q ≤ greatest_mantissa

-- the values in all scenarios, their total, and the first scenarios of the least and the greatest
pub record AreTotals (q : Inquiry) (set : List NamedMap) (t : Totals) : Type 0 where
  pub few : AreFew q set
  pub fixed : (i : ℕ) → i < length set → IsFixedIn q set i
  pub values : t.values.items ≡ values_in q.book q.setting q.asked set
  pub total : t.total ≡ total_of t.values.items
  pub least : IsFirstLeast t.values.items t.least
  pub greatest : IsFirstGreatest t.values.items t.greatest

-- the first scenario that reads a place that is not fixed, and the first such place
pub record IsFirstLack (q : Inquiry) (set : List NamedMap) (i : ℕ) (place : Place) : Type 0 where
  pub few : AreFew q set
  pub before : (j : ℕ) → j < i → IsFixedIn q set j
  pub lacks : LacksIn q set i place

-- the answer to a set
abbrev pub AnswersTotals : Inquiry → List NamedMap → Result Totals TotalsErr → Type 0
AnswersTotals q set (Ok t) = AreTotals q set t
AnswersTotals q set (Err (TooMany count)) = AreTooMany q set × (count ≡ length set)
AnswersTotals q set (Err (Missing scenario label day)) = IsFirstLack q set scenario (record { label = label; day = day })
AnswersTotals q set (Err NoMemory) = Unit {0}

-- the mean of values, at the decimals of their total
abbrev pub mean_of : Mode → ℤ → ℕ → ℤ
mean_of mode total count = divided mode total 0 (pos count) 0 0

-- each value is at most a mantissa in size, and so is their total
pub record AreSmallTotals (t : Totals) : Type 0 where
  pub values : All IsSmall t.values.items
  pub total : IsSmall t.total
