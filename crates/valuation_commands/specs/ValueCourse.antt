-- `value CODE FIXINGS CURVE [T=N].. --at DAY --from P --to Q --asset A`: the code file of the text; names that are declared; a day
-- in range; code that is accepted at the numbers that are set; fixings and then factors of which each row is taken; reads that
-- are fixed; and then the line of the value.
use Rattle.std.specs.Prelude.{ℕ, ℤ, List, Some}
use Rattle.term_model.specs.Flows.{Flow}
use Rattle.payoff_terms.specs.CodeBooks.{CodeBook}
use Rattle.command_words.specs.Commands.{ValueAsked}
use Rattle.command_courses.specs.Course.{Course, behind, tells}
use Rattle.command_courses.specs.Inputs.{file_at}
use Rattle.valuation_commands.specs.ValueStages.{accepted_code, code_fixed, code_of, curve_of, names_of_value}
use Rattle.command_courses.specs.Days.{day_of_word}
use Rattle.command_courses.specs.FixingTables.{fixed_by}
use Rattle.valuation_commands.specs.ValuePromise.{IsWorth, question, setting_by}

-- a number for each template: the one that is set, or the declared one
abbrev pub numbers : CodeBook → ValueAsked → List ℕ
numbers b asked = setting_by b.declarations asked.settings

-- what each command passes that asks for the value of code
abbrev pub asks_code : ValueAsked → CodeBook → (Flow → ℤ → Course) → Course
asks_code asked b next =
    behind (names_of_value b.declarations asked) (λ flow.
    behind (day_of_word b.declarations asked.at) (λ day.
    behind (accepted_code b (numbers b asked)) (λ _.
    next flow day)))

abbrev pub value_on : ValueAsked → CodeBook → List ℕ → List ℕ → Course
value_on asked b table curve =
    asks_code asked b (λ flow day.
    behind (fixed_by b.declarations (Some table) 2) (λ fixings.
    behind (curve_of curve 3) (λ factors.
    behind (code_fixed b (numbers b asked) fixings (question day factors flow)) (λ _.
    tells (IsWorth b (numbers b asked) fixings (question day factors flow))))))

abbrev pub value_course : ValueAsked → List (List ℕ) → Course
value_course asked inputs =
    behind (code_of (file_at inputs 0)) (λ b.
    value_on asked b (file_at inputs 1) (file_at inputs 2))
