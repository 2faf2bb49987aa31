-- Contracts that are all accepted, the first that is not, and the stage that they are or are not.
use Rattle.std.specs.Prelude.{List, ◌≡◌, ℕ, ◌∷◌, ◌++◌}
use Rattle.std.specs.List.{All}
use Rattle.term_model.specs.declared.name.Name.{Name}
use Rattle.term_model.specs.Declarations.{Declarations}
use Rattle.term_model.specs.Terms.{Contract}
use Rattle.term_model.specs.Acceptance.{IsAccepted, IsRefusal}
use Rattle.term_model.specs.declared.rules.Rule.{Rule}
use Rattle.report.specs.declared.fault_lines.Fault.{Fault}
use Rattle.report.specs.declared.fault_lines.Fault.TheVariants as fault
use Rattle.command_courses.specs.Course.{Stage}
use Rattle.command_courses.specs.declared.status.Status.TheVariants as status

abbrev pub AreAllAccepted : Declarations → List (Name × Contract) → Type 0
AreAllAccepted d entries = All (λ entry. IsAccepted d entry.1) entries

-- the first contract that is not accepted
pub record IsFirstNotAccepted (d : Declarations) (entries : List (Name × Contract)) (name : List ℕ) (rule : Rule) (node : ℕ) : Type 0 where
  pub before : List (Name × Contract)
  pub contr : Contract
  pub after : List (Name × Contract)
  pub split : entries ≡ before ++ (name, contr) ∷ after
  pub accepted : AreAllAccepted d before
  pub refused : IsRefusal d contr rule node

-- the first contract that is not accepted
pub record IsRefusedOf (d : Declarations) (entries : List (Name × Contract)) (f : Fault) : Type 0 where
  pub name : List ℕ
  pub rule : Rule
  pub node : ℕ
  pub first : IsFirstNotAccepted d entries name rule node
  pub fault_is : f ≡ fault.Refused name rule node

-- contracts that are accepted
abbrev pub all_accepted : Declarations → List (Name × Contract) → Stage (Unit {0})
all_accepted d entries = record { status = status.Refused; Passes = λ _. AreAllAccepted d entries; FaultIs = IsRefusedOf d entries }
