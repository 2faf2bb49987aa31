-- `expand PLANS`: the schedule file of the text; expansions that are accepted; and then the text of the portfolio that has the
-- file's declarations and, under the name of each plan and in the order of the plans, the plan's expansion.
use Rattle.std.specs.Prelude.{ℕ, List}
use Rattle.contract_print.specs.Canon.{IsCanon}
use Rattle.schedule_forms.specs.PlanBooks.{PlanBook, expanded_book}
use Rattle.command_courses.specs.Course.{Course, behind, tells}
use Rattle.command_courses.specs.Inputs.{file_at}
use Rattle.used_contracts.specs.AllAccepted.{all_accepted}
use Rattle.text_commands.specs.ExpandStages.{plans_of}

abbrev pub expand_on : PlanBook → Course
expand_on b =
    behind (all_accepted b.declarations (expanded_book b).contracts) (λ _.
    tells (λ text. IsCanon text (expanded_book b)))

abbrev pub expand_course : List (List ℕ) → Course
expand_course inputs =
    behind (plans_of (file_at inputs 0)) (λ b.
    expand_on b)
