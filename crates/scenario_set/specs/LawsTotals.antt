-- The laws of totals. For every contract that the code means, plain or cut, the value in each scenario is what the contract is
-- worth there, whatever else is observed (the soundness statement of Annenkov and Elsman, PPDP 2018, in each scenario). And what
-- is asked of a set has one answer, by the names and the maps of its scenarios alone.
use Rattle.std.specs.Prelude.{◌≡◌, ℕ, ℤ, pos, List, Some, Result, Ok, Err, slice_get}
use Rattle.term_model.specs.Environments.{Environment, Extends}
use Rattle.term_model.specs.Factors.{CurveRow}
use Rattle.term_model.specs.Instances.{instance}
use Rattle.term_model.specs.Terms.{Contract}
use Rattle.payoff_terms.specs.CodeBooks.{CodeBook}
use Rattle.payoff_terms.specs.CodeValues.{Asked}
use Rattle.payoff_terms.specs.Meaning.{CodeMeans, Counting, MayBeAsked, counting, of_past}
use Rattle.payoff_terms.specs.PresentValues.{present_value}
use Rattle.payoff_eval.specs.Questions.{asked_on}
use Rattle.scenario_set.specs.Scenarios.{NamedMap, SameScenarios}
use Rattle.scenario_set.specs.Totals.{AnswersTotals, AreTotals, Inquiry, value_at}
use Rattle.scenario_set.specs.declared.outcomes.Totals.{Totals}
use Rattle.scenario_set.specs.declared.outcomes.TotalsErr.{TotalsErr}
use Rattle.scenario_set.specs.declared.outcomes.TotalsErr.TheVariants.{NoMemory}

-- a number is the value of a contract in a scenario, in every environment that extends the scenario's map
abbrev pub IsWorthOf : CodeBook → List ℕ → Asked → Contract → Counting → NamedMap → ℤ → Type 0
IsWorthOf b xs a c v s worth =
    (env : Environment) → Extends s.map env → MayBeAsked b.declarations c xs env a
    → worth ≡ present_value b.declarations (instance xs c) env (pos b.declarations.start) (counting (of_past v) a)

abbrev pub at_setting : CodeBook → List ℕ → Asked → Inquiry
at_setting b xs a = record { book = b; setting = xs; asked = a }

abbrev pub ScenariosAreWorth : Type 0
ScenariosAreWorth =
    (b : CodeBook) (xs : List ℕ) (curve : List CurveRow) (at : ℤ) (from to asset : ℕ) (set : List NamedMap) (t : Totals) (c : Contract)
    (v : Counting)
    → AreTotals (at_setting b xs (asked_on curve at from to asset)) set t → CodeMeans b.declarations b.code c v
    → (i : ℕ) (s : NamedMap) → slice_get set i ≡ Some s
    → IsWorthOf b xs (asked_on curve at from to asset) c v s (value_at t.values.items i)

-- the same values, the same total, the same least and greatest
pub record SameTotals (one other : Totals) : Type 0 where
  pub values : one.values.items ≡ other.values.items
  pub total : one.total ≡ other.total
  pub least : one.least ≡ other.least
  pub greatest : one.greatest ≡ other.greatest

-- two answers say the same, but for want of memory
abbrev pub SameAnswer : Result Totals TotalsErr → Result Totals TotalsErr → Type 0
SameAnswer (Ok one) (Ok other) = SameTotals one other
SameAnswer (Ok one) (Err NoMemory) = Unit {0}
SameAnswer (Ok one) (Err e) = ⊥
SameAnswer (Err NoMemory) other = Unit {0}
SameAnswer (Err one) (Err NoMemory) = Unit {0}
SameAnswer (Err one) (Err other) = one ≡ other
SameAnswer (Err one) (Ok other) = ⊥

abbrev pub TotalsAreOne : Type 0
TotalsAreOne =
    (q : Inquiry) (one other : List NamedMap) (r s : Result Totals TotalsErr) → SameScenarios one other
    → AnswersTotals q one r → AnswersTotals q other s → SameAnswer r s
