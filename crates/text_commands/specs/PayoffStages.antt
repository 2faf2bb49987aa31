-- The stages that `payoff` alone has: that of the named contract, and that of its acceptance.
use Rattle.std.specs.Prelude.{◌≡◌, ℕ, List, Some, None}
use Rattle.term_model.specs.declared.rules.Rule.{Rule}
use Rattle.term_model.specs.Books.{Book}
use Rattle.term_model.specs.Declarations.{Declarations}
use Rattle.term_model.specs.Terms.{Contract}
use Rattle.report.specs.declared.fault_lines.Fault.{Fault}
use Rattle.report.specs.declared.fault_lines.Fault.TheVariants as fault
use Rattle.command_courses.specs.Course.{Stage}
use Rattle.command_courses.specs.declared.status.Status.TheVariants as status
use Rattle.used_contracts.specs.UsedContracts.{contract_named}
use Rattle.text_commands.specs.PayoffPromise.{IsAcceptedAtDefaults, IsRefusedAtDefaults}

-- a name is that of no contract
pub record NamesNone (b : Book) (name : List ℕ) (f : Fault) : Type 0 where
  pub none : contract_named name b ≡ None
  pub fault_is : f ≡ fault.UnknownName name

-- the contract of a name, as it is written
abbrev pub named : Book → List ℕ → Stage Contract
named b name = record { status = status.UnknownName; Passes = λ c. contract_named name b ≡ Some c; FaultIs = NamesNone b name }

-- a named contract is refused at the defaults
pub record IsRefusedNamed (d : Declarations) (name : List ℕ) (c : Contract) (f : Fault) : Type 0 where
  pub rule : Rule
  pub node : ℕ
  pub refused : IsRefusedAtDefaults d c rule node
  pub fault_is : f ≡ fault.Refused name rule node

-- a named contract that is accepted at the defaults
abbrev pub accepted_at_defaults : Declarations → List ℕ → Contract → Stage (Unit {0})
accepted_at_defaults d name c =
    record { status = status.Refused; Passes = λ _. IsAcceptedAtDefaults d c; FaultIs = IsRefusedNamed d name c }
