-- What is answered of one contract that is tried.
use Rattle.std.specs.Prelude.{Result, Ok, Err, ◌≡◌, ℕ}
use Rattle.term_model.specs.declared.rules.RuleFault.{RuleFault}
use Rattle.term_model.specs.Declarations.{Declarations}
use Rattle.term_model.specs.Terms.{Contract}
use Rattle.term_model.specs.Acceptance.{IsRefusal, IsAccepted}
use Rattle.term_model.specs.declared.name.Name.{Name}
use Rattle.term_model.specs.declared.rules.Rule.{Rule}
use Rattle.contract_check.specs.Checks.{IsGranted}
use Rattle.contract_check.specs.declared.checks.Facts.{Facts}
use Rattle.report.specs.declared.fault_lines.Fault.{Fault}
use Rattle.report.specs.declared.fault_lines.Fault.TheVariants as fault
use Rattle.command_courses.specs.Stopping.{AnswersBy}
use Rattle.command_courses.specs.declared.stop.Stop.{Stop}

abbrev pub IsVerdictOf : Declarations → Contract → Result Facts RuleFault → Type 0
IsVerdictOf d c (Ok facts) = IsGranted d c facts
IsVerdictOf d c (Err fault) = IsRefusal d c fault.rule fault.node

pub record IsRefusedOne (d : Declarations) (entry : Name × Contract) (f : Fault) : Type 0 where
  pub rule : Rule
  pub node : ℕ
  pub refused : IsRefusal d entry.1 rule node
  pub fault_is : f ≡ fault.Refused entry.0 rule node

abbrev pub AnswersAcceptedOne : Declarations → Name × Contract → Result (Unit {0}) Stop → Type 0
AnswersAcceptedOne d entry r = AnswersBy (λ _. IsAccepted d entry.1) (IsRefusedOne d entry) r
