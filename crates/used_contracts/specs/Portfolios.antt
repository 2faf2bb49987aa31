-- The first stages of a command on a portfolio: that of its text, and that of the name of a contract.
use Rattle.std.specs.Prelude.{◌≡◌, ℕ, true, false, List, Option, Some}
use Rattle.term_model.specs.Books.{Book}
use Rattle.contract_parse.specs.TextFaults.{IsFault}
use Rattle.contract_grammar.specs.Texts.{Text}
use Rattle.contract_grammar.specs.declared.faults.TextFault.{TextFault}
use Rattle.report.specs.declared.fault_lines.Fault.{Fault}
use Rattle.report.specs.declared.fault_lines.Fault.TheVariants as fault
use Rattle.command_courses.specs.Course.{Stage}
use Rattle.command_courses.specs.declared.status.Status.TheVariants as status
use Rattle.used_contracts.specs.UsedContracts.{is_known}

-- the bytes are no portfolio's text, and the fault is their first
pub record IsBadText (bytes : List ℕ) (f : Fault) : Type 0 where
  pub first : TextFault
  pub is_first : IsFault bytes first
  pub no_text : (b : Book) → Text bytes b → ⊥
  pub fault_is : f ≡ fault.Text first

-- the portfolio of a text
abbrev pub portfolio_of : List ℕ → Stage Book
portfolio_of bytes = record { status = status.BadText; Passes = Text bytes; FaultIs = IsBadText bytes }

-- a name that is asked for is that of no contract
pub record IsUnknownName (b : Book) (only : Option (List ℕ)) (f : Fault) : Type 0 where
  pub name : List ℕ
  pub given : only ≡ Some name
  pub unknown : is_known only b ≡ false
  pub fault_is : f ≡ fault.UnknownName name

-- the name that is asked for, if one is, is that of a contract
abbrev pub known : Book → Option (List ℕ) → Stage (Unit {0})
known b only = record { status = status.UnknownName; Passes = λ _. is_known only b ≡ true; FaultIs = IsUnknownName b only }
