-- The reads of contracts to a last day: all are fixed, or one is the first that is not; and the stage that says so.
use Rattle.std.specs.Prelude.{◌≡◌, ℤ, pos, List, ◌∷◌, ◌++◌, Option, Some, None}
use Rattle.std.specs.List.{All}
use Rattle.term_model.specs.declared.name.Name.{Name}
use Rattle.term_model.specs.Declarations.{Declarations}
use Rattle.term_model.specs.Environments.{Environment, Place}
use Rattle.term_model.specs.Terms.{Contract}
use Rattle.term_model.specs.Reads.{first_unfixed}
use Rattle.flow_eval.specs.FlowAnswers.{reads_until}
use Rattle.report.specs.declared.fault_lines.Fault.{Fault}
use Rattle.report.specs.declared.fault_lines.Fault.TheVariants as fault
use Rattle.command_courses.specs.Course.{Stage}
use Rattle.command_courses.specs.Names.{label_name}
use Rattle.command_courses.specs.declared.status.Status.TheVariants as status

-- the first read of a contract that stands on the start that is not fixed
abbrev pub missing_of : Declarations → Environment → ℤ → Contract → Option Place
missing_of d fixings last c = first_unfixed fixings (reads_until d c fixings (pos d.start) last)

-- each read of each contract is fixed
abbrev pub AreAllFixed : Declarations → Environment → ℤ → List (Name × Contract) → Type 0
AreAllFixed d fixings last entries = All (λ entry. missing_of d fixings last entry.1 ≡ None) entries

-- the first read that is not fixed, of the first contract that has one
pub record IsFirstMissing (d : Declarations) (fixings : Environment) (last : ℤ)
    (entries : List (Name × Contract)) (place : Place) : Type 0 where
  pub before : List (Name × Contract)
  pub entry : Name × Contract
  pub after : List (Name × Contract)
  pub split : entries ≡ before ++ entry ∷ after
  pub fixed : AreAllFixed d fixings last before
  pub missing : missing_of d fixings last entry.1 ≡ Some place

-- the first read of contracts that is not fixed
pub record IsMissingOf (d : Declarations) (fixings : Environment) (last : ℤ) (entries : List (Name × Contract)) (f : Fault) : Type 0 where
  pub place : Place
  pub first : IsFirstMissing d fixings last entries place
  pub fault_is : f ≡ fault.Missing (label_name d place.label) place.day

-- contracts of which each read to a last day is fixed
abbrev pub all_fixed : Declarations → Environment → ℤ → List (Name × Contract) → Stage (Unit {0})
all_fixed d fixings last entries =
    record { status = status.Missing; Passes = λ _. AreAllFixed d fixings last entries; FaultIs = IsMissingOf d fixings last entries }

pub record IsMissingOne (d : Declarations) (fixings : Environment) (last : ℤ) (c : Contract) (f : Fault) : Type 0 where
  pub place : Place
  pub missing : missing_of d fixings last c ≡ Some place
  pub fault_is : f ≡ fault.Missing (label_name d place.label) place.day
