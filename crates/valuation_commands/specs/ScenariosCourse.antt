-- `scenarios CODE SCENARIOS CURVE [T=N].. --at DAY --from P --to Q --asset A --mean MODE`: the code file of the text, and all that
-- `value` passes up to its tables; scenarios and then factors of which each row is taken; scenarios that are not too many; reads
-- that are fixed in each of them; and then the lines of their values and of the total.
use Rattle.std.specs.Prelude.{ℕ, List}
use Rattle.decimal.specs.declared.rounding.Mode.{Mode}
use Rattle.payoff_terms.specs.CodeBooks.{CodeBook}
use Rattle.scenario_set.specs.Scenarios.{NamedMap}
use Rattle.scenario_set.specs.Totals.{Inquiry}
use Rattle.command_words.specs.Commands.{ScenariosAsked}
use Rattle.command_courses.specs.Course.{Course, behind, tells}
use Rattle.command_courses.specs.Inputs.{file_at}
use Rattle.valuation_commands.specs.ScenarioStages.{few_scenarios, fixed_in_all, scenarios_of}
use Rattle.valuation_commands.specs.ScenariosPromise.{AreTotalLines, asked_by}
use Rattle.valuation_commands.specs.ValueStages.{code_of, curve_of}
use Rattle.valuation_commands.specs.ValueCourse.{asks_code}

-- behind the tables
abbrev pub total_told : Inquiry → List NamedMap → Mode → Course
total_told q set mean =
    behind (few_scenarios q set) (λ _.
    behind (fixed_in_all q set) (λ _.
    tells (AreTotalLines q set mean)))

abbrev pub scenarios_on : ScenariosAsked → CodeBook → List ℕ → List ℕ → Course
scenarios_on asked b table curve =
    asks_code asked.value b (λ flow day.
    behind (scenarios_of b.declarations table 2) (λ set.
    behind (curve_of curve 3) (λ factors.
    total_told (asked_by b asked.value day factors flow) set asked.mean)))

abbrev pub scenarios_course : ScenariosAsked → List (List ℕ) → Course
scenarios_course asked inputs =
    behind (code_of (file_at inputs 0)) (λ b.
    scenarios_on asked b (file_at inputs 1) (file_at inputs 2))
