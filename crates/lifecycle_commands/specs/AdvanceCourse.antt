-- `advance PORTFOLIO FIXINGS --to DAY`: the portfolio of the text; a day on which it can stand; contracts that are accepted;
-- fixings of which each row is taken; reads of the days before that day that are fixed; and then what is due before it, and
-- the text of what is left on it.
use Rattle.std.specs.Prelude.{ℕ, List, Option, Some, None}
use Rattle.term_model.specs.Books.{Book}
use Rattle.term_model.specs.Environments.{Environment}
use Rattle.command_words.specs.Commands.{AdvanceAsked}
use Rattle.lifecycle_commands.specs.AdvancePromise.{IsAdvanced, last_gone}
use Rattle.command_courses.specs.Course.{Course, behind, tells}
use Rattle.command_courses.specs.Inputs.{file_at}
use Rattle.used_contracts.specs.AllAccepted.{all_accepted}
use Rattle.used_contracts.specs.AllFixed.{all_fixed}
use Rattle.command_courses.specs.FixingTables.{fixed_by}
use Rattle.lifecycle_commands.specs.LifecycleStages.{new_day}
use Rattle.used_contracts.specs.Portfolios.{portfolio_of}
use Rattle.used_contracts.specs.UsedContracts.{used}

-- what each command passes that carries a portfolio to a day
abbrev pub to_a_day : List ℕ → Book → Option (List ℕ) → (ℕ → Environment → Course) → Course
to_a_day to b table next =
    behind (new_day b.declarations to) (λ day.
    behind (all_accepted b.declarations (used None b)) (λ _.
    behind (fixed_by b.declarations table 2) (λ fixings.
    behind (all_fixed b.declarations fixings (last_gone day) (used None b)) (λ _.
    next day fixings))))

abbrev pub advance_on : AdvanceAsked → Book → Option (List ℕ) → Course
advance_on asked b table =
    to_a_day asked.to b table (λ day fixings.
    tells (IsAdvanced b day fixings))

abbrev pub advance_course : AdvanceAsked → List (List ℕ) → Course
advance_course asked inputs =
    behind (portfolio_of (file_at inputs 0)) (λ b.
    advance_on asked b (Some (file_at inputs 1)))
