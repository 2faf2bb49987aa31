-- What the code is worth in one scenario. This is for the private steps of the total.
use Rattle.std.specs.Prelude.{All, ◌≡◌, ◌≤◌, ◌<◌, ◌*◌, ◌+ℤ◌, [], ◌∷◌, ◌++◌, ℕ}
use Rattle.std.specs.Prelude.{ℤ, length, take, unsigned_abs, List, Some, None, Result, Ok, Err, slice_get}
use Rattle.term_model.specs.declared.values.Missing.{Missing as Lacked}
use Rattle.term_model.specs.Environments.{Environment}
use Rattle.payoff_eval.specs.CodeAnswers.{IsValueOf}
use Rattle.scenario_set.specs.Scenarios.{NamedMap, rows_held}
use Rattle.scenario_set.specs.Totals.{Inquiry, IsFixedIn, LacksIn, lacked_in, most_worth, total_of, values_in, worth_in}
use Rattle.scenario_set.specs.declared.scenarios.SetRow.{SetRow}
use Rattle.scenario_set.specs.declared.sums.Summed.{Summed}
use Rattle.scenario_set.specs.declared.outcomes.TotalsErr.{TotalsErr}
use Rattle.scenario_set.specs.declared.outcomes.TotalsErr.TheVariants.{TooMany, Missing, NoMemory}

-- the value in scenario i, where each read is fixed; it is at most the code's total in size
pub record IsWorthIn (q : Inquiry) (set : List NamedMap) (i : ℕ) (worth : ℤ) : Type 0 where
  pub scenario : NamedMap
  pub stands : slice_get set i ≡ Some scenario
  pub fixed : lacked_in q.book q.setting q.asked scenario.map ≡ None
  pub is : worth ≡ worth_in q.book q.setting q.asked scenario.map
  pub size : unsigned_abs worth ≤ most_worth q

-- the answer where rows are laid over a map
abbrev pub AnswersOver : Inquiry → List SetRow → Environment → Result ℤ Lacked → Type 0
AnswersOver q own common found = IsValueOf q.book q.setting (rows_held own ++ common) q.asked found

-- the answer in scenario i
abbrev pub AnswersIn : Inquiry → List NamedMap → ℕ → Result ℤ TotalsErr → Type 0
AnswersIn q set i (Ok worth) = IsWorthIn q set i worth
AnswersIn q set i (Err (TooMany count)) = ⊥
AnswersIn q set i (Err (Missing scenario label day)) = (scenario ≡ i) × LacksIn q set i (record { label = label; day = day })
AnswersIn q set i (Err NoMemory) = Unit {0}

-- what was found in a scenario
abbrev pub told_in : ℕ → Result ℤ Lacked → Result ℤ TotalsErr
told_in i (Ok worth) = Ok worth
told_in i (Err lacked) = Err (Missing i lacked.label lacked.day)

-- the values of the first n scenarios, and their total
pub record SumsUpTo (q : Inquiry) (set : List NamedMap) (n : ℕ) (values : List ℤ) (total : ℤ) : Type 0 where
  pub values_are : values ≡ values_in q.book q.setting q.asked (take n set)
  pub total_is : total ≡ total_of values
  pub fixed : (j : ℕ) → j < n → IsFixedIn q set j
  pub sizes : All (λ v. unsigned_abs v ≤ most_worth q) values
  pub size : unsigned_abs total ≤ n * most_worth q

-- the values in all scenarios, or the first place that is lacked
abbrev pub AnswersSum : Inquiry → List NamedMap → Result Summed TotalsErr → Type 0
AnswersSum q set (Ok s) = SumsUpTo q set (length set) s.values.items s.total
AnswersSum q set (Err (TooMany count)) = ⊥
AnswersSum q set (Err (Missing scenario label day)) =
    ((j : ℕ) → j < scenario → IsFixedIn q set j) × LacksIn q set scenario (record { label = label; day = day })
AnswersSum q set (Err NoMemory) = Unit {0}

-- the value in the next scenario is added
pub record TakesValue (before after : Summed) (worth : ℤ) : Type 0 where
  pub values : after.values.items ≡ before.values.items ++ worth ∷ []
  pub total : after.total ≡ before.total +ℤ worth
