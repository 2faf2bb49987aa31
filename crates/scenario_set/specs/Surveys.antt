-- What is asked in the scenarios of a set, and when the values can be found and added up. This is for the private steps of the
-- total.
use Rattle.std.specs.Prelude.{ℕ, ◌≤◌, List}
use Rattle.term_model.specs.Environments.{Environment, IsAdmitted}
use Rattle.payoff_terms.specs.CodeSizes.{height_of_code}
use Rattle.scenario_set.specs.Scenarios.{AreAdmitted, NamedMap, maps_of}
use Rattle.scenario_set.specs.Totals.{AreFew, CanBeAsked, Inquiry, inquiry_of}
use Rattle.scenario_set.specs.declared.surveys.Asking.{Asking}
use Rattle.scenario_set.specs.declared.surveys.Survey.{Survey}

-- what the program's question stands for
abbrev pub inquiry : Asking → Inquiry
inquiry a = inquiry_of a.file.now a.setting.now a.curve.now a.at a.from a.to a.asset

-- what is asked in a survey, and the scenarios in which it is asked
abbrev pub asked_in : Survey → Inquiry
asked_in s = inquiry s.asking.now

abbrev pub scenarios_in : Survey → List NamedMap
scenarios_in s = maps_of s.common.now s.each.now

-- it can be asked over a map, which the declarations admit
pub record CanBeAskedOver (q : Inquiry) (env : Environment) : Type 0 where
  pub asked : CanBeAsked q
  pub admitted : IsAdmitted q.book.declarations env

-- it can be asked in each scenario of a set, and the values can be added up
pub record CanBeSurveyed (q : Inquiry) (set : List NamedMap) : Type 0 where
  pub asked : CanBeAsked q
  pub admitted : AreAdmitted q.book.declarations set
  pub few : AreFew q set

-- room for so many names is enough for the code
abbrev pub HasRoomFor : Inquiry → ℕ → Type 0
HasRoomFor q room = height_of_code q.book.code ≤ room
