-- What the law of statuses says of `flows`, status by status: in the order of its stages, each with what passes before it.
use Rattle.std.specs.Prelude.{◌≡◌, ℕ, ℤ, false, true, List, Option, Some}
use Rattle.term_model.specs.Books.{Book}
use Rattle.term_model.specs.Environments.{Environment}
use Rattle.fixing_files.specs.Tables.{IsFirstFault, table_of}
use Rattle.fixing_files.specs.declared.faults.RowFault.{RowFault}
use Rattle.report.specs.declared.fault_lines.Fault.{Fault}
use Rattle.command_words.specs.Commands.{FlowsAsked}
use Rattle.used_contracts.specs.AllAccepted.{AreAllAccepted}
use Rattle.command_courses.specs.Course.{IsDue, Stops}
use Rattle.flow_commands.specs.FlowsCourse.{flows_on}
use Rattle.used_contracts.specs.AllFixed.{AreAllFixed}
use Rattle.command_courses.specs.FixingTables.{AreFixings}
use Rattle.flow_commands.specs.FlowsPromise.{IsLastDay}
use Rattle.command_courses.specs.Days.{IsOutOfRange, greatest_day}
use Rattle.command_courses.specs.Statuses.{status_of}
use Rattle.used_contracts.specs.UsedContracts.{is_known, used}
use Rattle.command_courses.specs.declared.status.Status.{Status}
use Rattle.command_courses.specs.declared.status.Status.TheVariants as status

-- the words name a contract of the portfolio, where they name one, and a day in range
pub record WordsFit (asked : FlowsAsked) (b : Book) (last : ℤ) : Type 0 where
  pub known : is_known asked.contract b ≡ true
  pub is_last : IsLastDay b.declarations asked.until last

-- names are known, and the day is out of range
pub record DayIsOut (asked : FlowsAsked) (b : Book) : Type 0 where
  pub known : is_known asked.contract b ≡ true
  pub word : List ℕ
  pub given : asked.until ≡ Some word
  pub out : IsOutOfRange b.declarations greatest_day word

-- the words fit, and some contract that is used is not accepted
pub record SomeIsRefused (asked : FlowsAsked) (b : Book) : Type 0 where
  pub last : ℤ
  pub fit : WordsFit asked b last
  pub refused : AreAllAccepted b.declarations (used asked.contract b) → ⊥

-- the contracts that are used are accepted, and some row of the table is refused
pub record SomeRowIsBad (asked : FlowsAsked) (table : Option (List ℕ)) (b : Book) : Type 0 where
  pub last : ℤ
  pub fit : WordsFit asked b last
  pub accepted : AreAllAccepted b.declarations (used asked.contract b)
  pub bytes : List ℕ
  pub named : table ≡ Some bytes
  pub row : RowFault
  pub first : IsFirstFault b.declarations (table_of bytes) row

-- the contracts that are used are accepted and the rows are taken, and some read is not fixed
pub record SomeReadIsMissing (asked : FlowsAsked) (table : Option (List ℕ)) (b : Book) : Type 0 where
  pub last : ℤ
  pub fit : WordsFit asked b last
  pub accepted : AreAllAccepted b.declarations (used asked.contract b)
  pub fixings : Environment
  pub are_fixings : AreFixings b.declarations table fixings
  pub unfixed : AreAllFixed b.declarations fixings last (used asked.contract b) → ⊥

-- the same, and each read is fixed
pub record CanListFlows (asked : FlowsAsked) (table : Option (List ℕ)) (b : Book) : Type 0 where
  pub last : ℤ
  pub fit : WordsFit asked b last
  pub accepted : AreAllAccepted b.declarations (used asked.contract b)
  pub fixings : Environment
  pub are_fixings : AreFixings b.declarations table fixings
  pub fixed : AreAllFixed b.declarations fixings last (used asked.contract b)

-- the cause of a status of `flows` that has its portfolio
abbrev pub CauseOfFlows : Status → FlowsAsked → Option (List ℕ) → Book → Type 0
CauseOfFlows status.UnknownName asked table b = is_known asked.contract b ≡ false
CauseOfFlows status.DayRange asked table b = DayIsOut asked b
CauseOfFlows status.Refused asked table b = SomeIsRefused asked b
CauseOfFlows status.BadRow asked table b = SomeRowIsBad asked table b
CauseOfFlows status.Missing asked table b = SomeReadIsMissing asked table b
CauseOfFlows status.Done asked table b = CanListFlows asked table b
CauseOfFlows _ asked table b = ⊥

-- where a cause stands its status is due, and what stops the command has its cause
pub record DueOfFlowsIs (asked : FlowsAsked) (table : Option (List ℕ)) (b : Book) : Type 0 where
  pub due : (s : Status) → CauseOfFlows s asked table b → IsDue (flows_on asked b table) s
  pub cause : (f : Fault) → Stops (flows_on asked b table) f → CauseOfFlows (status_of f) asked table b

abbrev pub DueOfFlows : Type 0
DueOfFlows = (asked : FlowsAsked) (table : Option (List ℕ)) (b : Book) → DueOfFlowsIs asked table b
