-- What is asked of a set by the arguments of a call: the day fits a machine word, and the scenarios that are laid out are
-- those of the set.
use Rattle.std.proofs.Common.{◌≡◌, ◌*◌, ◌≤◌, ◌^◌, ℕ, ℤ, pos, List, FitsSigned, of_z, to_z, w64, arith, subst, sym}
use Rattle.std.specs.Prelude.{◌≤ℤ◌}
use Rattle.std.proofs.lemmas.Int.{ints, to_z-of_z}
use Rattle.term_model.specs.Declarations.{Declarations}
use Rattle.payoff_terms.specs.CodeValues.{Asked}
use Rattle.payoff_eval.specs.Questions.{IsQuestion}
use Rattle.scenario_set.specs.Scenarios.{NamedMap, SameScenarios}
use Rattle.scenario_set.specs.Surveys.{CanBeSurveyed}
use Rattle.scenario_set.specs.Totals.{Inquiry, most_worth}
use Rattle.scenario_set.proofs.OneTotalFacts.{admitted_same, same_count}

fits : (day : ℤ) → pos 0 ≤ℤ day → day ≤ℤ pos 1_100_000 → FitsSigned w64 day
fits day low high = omega (arith, ints)

pub day_fits : (d : Declarations) (a : Asked) → IsQuestion d a → to_z w64 (of_z w64 a.now) ≡ a.now
day_fits d a h = to_z-of_z w64 a.now (fits a.now (let low = h.begun in omega (arith, ints)) h.near)

-- scenarios that are those of a set can be surveyed as the set can
pub surveyed_same : (q : Inquiry) (one other : List NamedMap) → SameScenarios one other → CanBeSurveyed q other → CanBeSurveyed q one
surveyed_same q one other same h = record {
  asked = h.asked;
  admitted = admitted_same q.book.declarations one other same h.admitted;
  few = subst (λ (n : ℕ). n * most_worth q ≤ 10 ^ 37) (sym (same_count one other same)) h.few;
}
