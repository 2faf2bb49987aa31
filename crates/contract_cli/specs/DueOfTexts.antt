-- What the law of statuses says of `check`, `payoff`, `expand` and `migrate`, status by status: in the order of their stages, each with
-- what passes before it.
use Rattle.std.specs.Prelude.{◌≡◌, ◌↔◌, ℕ, List, None, Some}
use Rattle.term_model.specs.Books.{Book}
use Rattle.term_model.specs.Terms.{Contract}
use Rattle.contract_grammar.specs.Texts.{Text}
use Rattle.schedule_forms.specs.PlanBooks.{PlanBook, expanded_book}
use Rattle.schedule_forms.specs.PlanSpelling.{PlanText}
use Rattle.report.specs.declared.fault_lines.Fault.{Fault}
use Rattle.command_words.specs.Commands.{PayoffAsked}
use Rattle.command_courses.specs.Course.{IsDue, Stops}
use Rattle.command_courses.specs.Inputs.{file_at}
use Rattle.command_courses.specs.Statuses.{status_of}
use Rattle.command_courses.specs.declared.status.Status.{Status}
use Rattle.command_courses.specs.declared.status.Status.TheVariants as status
use Rattle.used_contracts.specs.AllAccepted.{AreAllAccepted}
use Rattle.used_contracts.specs.UsedContracts.{contract_named, used}
use Rattle.text_commands.specs.CheckCourse.{check_course}
use Rattle.text_commands.specs.ExpandCourse.{expand_course}
use Rattle.text_commands.specs.MigrateCourse.{migrate_course}
use Rattle.text_commands.specs.PayoffCourse.{payoff_on}
use Rattle.text_commands.specs.PayoffPromise.{CanCompile, IsAcceptedAtDefaults}

-- ---- `check` and `migrate`, which a bad text alone stops

-- the bytes are no portfolio's text
abbrev pub IsNoPortfolio : List ℕ → Type 0
IsNoPortfolio bytes = (b : Book) → Text bytes b → ⊥

-- the bytes are a portfolio's text, and its contracts are all accepted, or not all
pub record IsTextOfAccepted (bytes : List ℕ) : Type 0 where
  pub book : Book
  pub spelled : Text bytes book
  pub accepted : AreAllAccepted book.declarations (used None book)

pub record IsTextOfRefused (bytes : List ℕ) : Type 0 where
  pub book : Book
  pub spelled : Text bytes book
  pub refused : AreAllAccepted book.declarations (used None book) → ⊥

-- the cause of a status of `check`
abbrev pub CauseOfCheck : Status → List ℕ → Type 0
CauseOfCheck status.BadText bytes = IsNoPortfolio bytes
CauseOfCheck status.Refused bytes = IsTextOfRefused bytes
CauseOfCheck status.Done bytes = IsTextOfAccepted bytes
CauseOfCheck _ bytes = ⊥

-- a status is due exactly where its cause stands
abbrev pub DueOfCheck : Type 0
DueOfCheck = (inputs : List (List ℕ)) (s : Status) → CauseOfCheck s (file_at inputs 0) ↔ IsDue (check_course inputs) s

-- the cause of a status of `migrate`
abbrev pub CauseOfMigrate : Status → List ℕ → Type 0
CauseOfMigrate status.BadText bytes = IsNoPortfolio bytes
CauseOfMigrate status.Done bytes = (b : Book) × Text bytes b
CauseOfMigrate _ bytes = ⊥

abbrev pub DueOfMigrate : Type 0
DueOfMigrate = (inputs : List (List ℕ)) (s : Status) → CauseOfMigrate s (file_at inputs 0) ↔ IsDue (migrate_course inputs) s

-- ---- `expand`

-- the bytes are a schedule file, and the contracts of its plans are all accepted, or not all
pub record IsFileOfAccepted (bytes : List ℕ) : Type 0 where
  pub plans : PlanBook
  pub spelled : PlanText bytes plans
  pub accepted : AreAllAccepted plans.declarations (expanded_book plans).contracts

pub record IsFileOfRefused (bytes : List ℕ) : Type 0 where
  pub plans : PlanBook
  pub spelled : PlanText bytes plans
  pub refused : AreAllAccepted plans.declarations (expanded_book plans).contracts → ⊥

-- the cause of a status of `expand`
abbrev pub CauseOfExpand : Status → List ℕ → Type 0
CauseOfExpand status.BadText bytes = (plans : PlanBook) → PlanText bytes plans → ⊥
CauseOfExpand status.Refused bytes = IsFileOfRefused bytes
CauseOfExpand status.Done bytes = IsFileOfAccepted bytes
CauseOfExpand _ bytes = ⊥

abbrev pub DueOfExpand : Type 0
DueOfExpand = (inputs : List (List ℕ)) (s : Status) → CauseOfExpand s (file_at inputs 0) ↔ IsDue (expand_course inputs) s

-- ---- `payoff`

-- the name is that of a contract, which is not accepted
pub record NamedIsRefused (asked : PayoffAsked) (b : Book) : Type 0 where
  pub contr : Contract
  pub named : contract_named asked.contract b ≡ Some contr
  pub refused : IsAcceptedAtDefaults b.declarations contr → ⊥

-- the name is that of a contract, which is accepted
pub record NamedIsAccepted (asked : PayoffAsked) (b : Book) : Type 0 where
  pub contr : Contract
  pub can : CanCompile b asked contr

-- the cause of a status of `payoff` that has its portfolio
abbrev pub CauseOfPayoff : Status → PayoffAsked → Book → Type 0
CauseOfPayoff status.UnknownName asked b = contract_named asked.contract b ≡ None
CauseOfPayoff status.Refused asked b = NamedIsRefused asked b
CauseOfPayoff status.Done asked b = NamedIsAccepted asked b
CauseOfPayoff _ asked b = ⊥

-- where a cause stands its status is due, and what stops the command has its cause
pub record DueOfPayoffIs (asked : PayoffAsked) (b : Book) : Type 0 where
  pub due : (s : Status) → CauseOfPayoff s asked b → IsDue (payoff_on asked b) s
  pub cause : (f : Fault) → Stops (payoff_on asked b) f → CauseOfPayoff (status_of f) asked b

abbrev pub DueOfPayoff : Type 0
DueOfPayoff = (asked : PayoffAsked) (b : Book) → DueOfPayoffIs asked b
