-- Laws of two runs, of which the first is `migrate` and the second reads what it has printed. `check` and `flows` answer what they
-- answer to the portfolio that was migrated, in each status and with each text. So does `advance`, but that what is left stands in
-- version 2.
use Rattle.std.specs.Prelude.{◌≡◌, ◌⊎◌, ℕ, List, Some}
use Rattle.contract_print.specs.Migrated.{migrated}
use Rattle.command_words.specs.Commands.{Advance, AdvanceAsked, Check, Flows, FlowsAsked}
use Rattle.command_courses.specs.Course.{Course, tells}
use Rattle.command_courses.specs.Inputs.{file_at, table_if_named}
use Rattle.command_courses.specs.declared.status.Status.{Status}
use Rattle.command_courses.specs.declared.status.Status.TheVariants as status
use Rattle.flow_commands.specs.FlowsCourse.{flows_on}
use Rattle.lifecycle_commands.specs.AdvanceCourse.{to_a_day}
use Rattle.lifecycle_commands.specs.AdvancePromise.{IsAdvancedWith}
use Rattle.text_commands.specs.CheckPromise.{IsCheckText}
use Rattle.term_model.specs.Books.{Book}
use Rattle.contract_cli.specs.Headline.{HasMigrated}
use Rattle.contract_cli.specs.RunLaws.{IsReadWhole, IsWritten}
use Rattle.contract_cli.specs.RunPromise.{Meets}
use Rattle.contract_cli.specs.Seen.{Edge, WritesAll}
use Rattle.contract_cli.specs.TwoRuns.{Migrates, Passes}

-- ---- and then `check`

-- the status and the lines of the second run are those of the portfolio that was migrated
pub record ChecksMigrated (first : Edge) (file : List ℕ) (second : Edge) (s : Status) : Type 0 where
  pub migrating : HasMigrated first file
  pub text : List ℕ
  pub verdicts : IsCheckText migrating.book s text
  pub written : WritesAll second.sink text

abbrev pub MigratedTextsAreChecked : Type 0
MigratedTextsAreChecked =
    (words more : List (List ℕ)) (first second : Edge) (s : Status) (file «from» : List ℕ) (inputs : List (List ℕ))
    → Migrates words first file → Meets more second s → IsReadWhole more second (Check «from») inputs → Passes first second «from»
    → ChecksMigrated first file second s ⊎ (s ≡ status.NoMemory)

-- ---- and then `flows`

-- the second run answers what `flows` answers to the portfolio that was migrated, over the same table: the same lines, or the line
-- of the same fault
pub record ListsMigrated (first : Edge) (file : List ℕ) (second : Edge) (asked : FlowsAsked) (inputs : List (List ℕ)) (s : Status) : Type 0 where
  pub migrating : HasMigrated first file
  pub answer : IsWritten (flows_on asked migrating.book (table_if_named asked.fixings inputs)) second s

abbrev pub MigratedTextsAreListed : Type 0
MigratedTextsAreListed =
    (words more : List (List ℕ)) (first second : Edge) (s : Status) (file : List ℕ) (asked : FlowsAsked) (inputs : List (List ℕ))
    → Migrates words first file → Meets more second s → IsReadWhole more second (Flows asked) inputs
    → Passes first second asked.portfolio → ListsMigrated first file second asked inputs s ⊎ (s ≡ status.NoMemory)

-- ---- and then `advance`

-- `advance` to a day, but that what is left is written in version 2
abbrev pub advance_in_version_two : AdvanceAsked → Book → List ℕ → Course
advance_in_version_two asked b table =
    to_a_day asked.to b (Some table) (λ day fixings. tells (IsAdvancedWith migrated b day fixings))

-- the second run answers what that answers to the portfolio that was migrated, over the same table
pub record AdvancesMigrated (first : Edge) (file : List ℕ) (second : Edge) (asked : AdvanceAsked) (inputs : List (List ℕ)) (s : Status) : Type 0 where
  pub migrating : HasMigrated first file
  pub answer : IsWritten (advance_in_version_two asked migrating.book (file_at inputs 1)) second s

abbrev pub MigratedTextsAdvance : Type 0
MigratedTextsAdvance =
    (words more : List (List ℕ)) (first second : Edge) (s : Status) (file : List ℕ) (asked : AdvanceAsked) (inputs : List (List ℕ))
    → Migrates words first file → Meets more second s → IsReadWhole more second (Advance asked) inputs
    → Passes first second asked.portfolio → AdvancesMigrated first file second asked inputs s ⊎ (s ≡ status.NoMemory)
