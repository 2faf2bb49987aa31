-- A schedule file by its contents: its declarations, and its plans by name in their order; and the portfolio of its
-- expansions, which has the same declarations and a contract for each plan.
use Rattle.std.specs.Prelude.{List, map}
use Rattle.term_model.specs.declared.name.Name.{Name}
use Rattle.term_model.specs.Books.{Book}
use Rattle.term_model.specs.Declarations.{Declarations, declarations}
use Rattle.schedule_forms.specs.declared.plans.Plan.{Plan}
use Rattle.schedule_forms.specs.declared.plan_file.PlanFile.{PlanFile}
use Rattle.schedule_forms.specs.Expansions.{expansion}

pub record PlanBook : Type 0 where
  pub declarations : Declarations
  pub plans : List (Name × Plan)

-- what the program's schedule file stands for
abbrev pub plan_book : PlanFile → PlanBook
plan_book file = record { declarations = declarations file.decls; plans = file.plans.entries }

abbrev pub expanded_book : PlanBook → Book
expanded_book b = record { declarations = b.declarations; contracts = map (λ entry. (entry.0, expansion entry.1)) b.plans }
