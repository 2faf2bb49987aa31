-- `flows PORTFOLIO [FIXINGS] [--until DAY] [--contract NAME] [--net]`: the portfolio of the text; a name, if one is asked for, that
-- is a contract's; a day in range; contracts that are accepted; fixings of which each row is taken; reads that are fixed; and
-- then the flow lines, or those of the sum.
use Rattle.std.specs.Prelude.{ℕ, ℤ, List, Option}
use Rattle.term_model.specs.Books.{Book}
use Rattle.term_model.specs.Environments.{Environment}
use Rattle.command_words.specs.Commands.{FlowsAsked}
use Rattle.command_courses.specs.Course.{Course, behind, tells}
use Rattle.command_courses.specs.FixingTables.{fixed_by}
use Rattle.command_courses.specs.Inputs.{file_at, table_if_named}
use Rattle.used_contracts.specs.AllAccepted.{all_accepted}
use Rattle.used_contracts.specs.AllFixed.{all_fixed}
use Rattle.used_contracts.specs.Portfolios.{known, portfolio_of}
use Rattle.used_contracts.specs.UsedContracts.{used}
use Rattle.flow_commands.specs.FlowsPromise.{AreLinesAsked}
use Rattle.flow_commands.specs.FlowsStages.{last_day}

-- what each command passes that lists what contracts pay to a last day
abbrev pub over_fixings : Option (List ℕ) → Option (List ℕ) → Book → Option (List ℕ) → (ℤ → Environment → Course) → Course
over_fixings only until b table next =
    behind (known b only) (λ _.
    behind (last_day b.declarations until) (λ last.
    behind (all_accepted b.declarations (used only b)) (λ _.
    behind (fixed_by b.declarations table 2) (λ fixings.
    behind (all_fixed b.declarations fixings last (used only b)) (λ _.
    next last fixings)))))

abbrev pub table_named : FlowsAsked → List (List ℕ) → Option (List ℕ)
table_named asked inputs = table_if_named asked.fixings inputs

abbrev pub flows_on : FlowsAsked → Book → Option (List ℕ) → Course
flows_on asked b table =
    over_fixings asked.contract asked.until b table (λ last fixings.
    tells (AreLinesAsked asked.net b.declarations fixings last (used asked.contract b)))

-- the same behind the portfolio of a text
abbrev pub flows_of_text : FlowsAsked → List ℕ → Option (List ℕ) → Course
flows_of_text asked text table =
    behind (portfolio_of text) (λ b.
    flows_on asked b table)

abbrev pub flows_course : FlowsAsked → List (List ℕ) → Course
flows_course asked inputs = flows_of_text asked (file_at inputs 0) (table_named asked inputs)
