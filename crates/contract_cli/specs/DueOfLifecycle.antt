-- What the law of statuses says of `advance` and of `novate`, status by status: in the order of their stages, each with what passes
-- before it.
use Rattle.std.specs.Prelude.{◌≡◌, ℕ, true, false, List, Option, Some, None}
use Rattle.term_model.specs.Books.{Book}
use Rattle.term_model.specs.Environments.{Environment}
use Rattle.contract_grammar.specs.Names.{index_in}
use Rattle.fixing_files.specs.Tables.{IsFirstFault, table_of}
use Rattle.fixing_files.specs.declared.faults.RowFault.{RowFault}
use Rattle.report.specs.declared.fault_lines.Fault.{Fault}
use Rattle.command_words.specs.Commands.{AdvanceAsked, NovateAsked}
use Rattle.command_courses.specs.Course.{IsDue, Stops}
use Rattle.command_courses.specs.Days.{IsOutOfRange}
use Rattle.command_courses.specs.FixingTables.{AreFixings}
use Rattle.command_courses.specs.Statuses.{status_of}
use Rattle.command_courses.specs.declared.status.Status.{Status}
use Rattle.command_courses.specs.declared.status.Status.TheVariants as status
use Rattle.used_contracts.specs.AllAccepted.{AreAllAccepted}
use Rattle.used_contracts.specs.AllFixed.{AreAllFixed}
use Rattle.used_contracts.specs.UsedContracts.{is_known, used}
use Rattle.lifecycle_commands.specs.AdvanceCourse.{advance_on}
use Rattle.lifecycle_commands.specs.AdvancePromise.{CanAdvance, IsNewDay, greatest_new_day, last_gone}
use Rattle.lifecycle_commands.specs.NovateCourse.{novate_on}
use Rattle.lifecycle_commands.specs.NovatePromise.{KnowsParties}

-- ---- a portfolio that is carried to a day

-- the day is one on which the portfolio can stand, and some contract is not accepted
pub record SomeIsRefusedOn (to : List ℕ) (b : Book) : Type 0 where
  pub day : ℕ
  pub is_day : IsNewDay b.declarations to day
  pub refused : AreAllAccepted b.declarations (used None b) → ⊥

-- the contracts are accepted, and some row of the table is refused
pub record SomeRowIsBadOn (to : List ℕ) (table : Option (List ℕ)) (b : Book) : Type 0 where
  pub day : ℕ
  pub is_day : IsNewDay b.declarations to day
  pub accepted : AreAllAccepted b.declarations (used None b)
  pub bytes : List ℕ
  pub named : table ≡ Some bytes
  pub row : RowFault
  pub first : IsFirstFault b.declarations (table_of bytes) row

-- the contracts are accepted and the rows are taken, and some read of the days gone by is not fixed
pub record SomePastReadIsMissing (to : List ℕ) (table : Option (List ℕ)) (b : Book) : Type 0 where
  pub day : ℕ
  pub is_day : IsNewDay b.declarations to day
  pub accepted : AreAllAccepted b.declarations (used None b)
  pub fixings : Environment
  pub are_fixings : AreFixings b.declarations table fixings
  pub unfixed : AreAllFixed b.declarations fixings (last_gone day) (used None b) → ⊥

-- nothing stops the command on some day
pub record CanAdvanceTo (asked : AdvanceAsked) (table : Option (List ℕ)) (b : Book) : Type 0 where
  pub day : ℕ
  pub fixings : Environment
  pub can : CanAdvance b asked table day fixings

-- ---- `advance`

-- the cause of a status of `advance` that has its portfolio
abbrev pub CauseOfAdvance : Status → AdvanceAsked → Option (List ℕ) → Book → Type 0
CauseOfAdvance status.DayRange asked table b = IsOutOfRange b.declarations greatest_new_day asked.to
CauseOfAdvance status.Refused asked table b = SomeIsRefusedOn asked.to b
CauseOfAdvance status.BadRow asked table b = SomeRowIsBadOn asked.to table b
CauseOfAdvance status.Missing asked table b = SomePastReadIsMissing asked.to table b
CauseOfAdvance status.Done asked table b = CanAdvanceTo asked table b
CauseOfAdvance _ asked table b = ⊥

-- where a cause stands its status is due, and what stops the command has its cause
pub record DueOfAdvanceIs (asked : AdvanceAsked) (table : Option (List ℕ)) (b : Book) : Type 0 where
  pub due : (s : Status) → CauseOfAdvance s asked table b → IsDue (advance_on asked b table) s
  pub cause : (f : Fault) → Stops (advance_on asked b table) f → CauseOfAdvance (status_of f) asked table b

abbrev pub DueOfAdvance : Type 0
DueOfAdvance = (asked : AdvanceAsked) (table : Option (List ℕ)) (b : Book) → DueOfAdvanceIs asked table b

-- ---- `novate`

-- the name of the contract is that of none; or it is that of one, and the old party is not declared; or this is, and the new party is not
pub data SomeNameOfNovateIsUnknown (asked : NovateAsked) (b : Book) : Type 0 where
  no_contract : is_known (Some asked.contract) b ≡ false → SomeNameOfNovateIsUnknown asked b
  no_old :
      is_known (Some asked.contract) b ≡ true → index_in b.declarations.parties asked.old ≡ None → SomeNameOfNovateIsUnknown asked b
  no_new :
      is_known (Some asked.contract) b ≡ true → (old : ℕ) → index_in b.declarations.parties asked.old ≡ Some old
      → index_in b.declarations.parties asked.new ≡ None → SomeNameOfNovateIsUnknown asked b

-- the three names are known, and the rest has the cause that `advance` has
pub record HasCauseOfAdvance (s : Status) (asked : NovateAsked) (table : Option (List ℕ)) (b : Book) : Type 0 where
  pub old : ℕ
  pub new : ℕ
  pub names : KnowsParties b asked old new
  pub cause : CauseOfAdvance s asked.advance table b

-- the cause of a status of `novate` that has its portfolio: behind names that are known, that of `advance`
abbrev pub CauseOfNovate : Status → NovateAsked → Option (List ℕ) → Book → Type 0
CauseOfNovate status.UnknownName asked table b = SomeNameOfNovateIsUnknown asked b
CauseOfNovate s asked table b = HasCauseOfAdvance s asked table b

pub record DueOfNovateIs (asked : NovateAsked) (table : Option (List ℕ)) (b : Book) : Type 0 where
  pub due : (s : Status) → CauseOfNovate s asked table b → IsDue (novate_on asked b table) s
  pub cause : (f : Fault) → Stops (novate_on asked b table) f → CauseOfNovate (status_of f) asked table b

abbrev pub DueOfNovate : Type 0
DueOfNovate = (asked : NovateAsked) (table : Option (List ℕ)) (b : Book) → DueOfNovateIs asked table b
