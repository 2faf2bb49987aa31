-- The stage that `expand` begins with: that of a schedule file.
use Rattle.std.specs.Prelude.{◌≡◌, ℕ, List}
use Rattle.contract_grammar.specs.declared.faults.TextFault.{TextFault}
use Rattle.schedule_forms.specs.PlanBooks.{PlanBook}
use Rattle.schedule_forms.specs.PlanSpelling.{PlanText}
use Rattle.schedule_forms.specs.PlanTexts.{IsPlanFault}
use Rattle.report.specs.declared.fault_lines.Fault.{Fault}
use Rattle.report.specs.declared.fault_lines.Fault.TheVariants as fault
use Rattle.command_courses.specs.Course.{Stage}
use Rattle.command_courses.specs.declared.status.Status.TheVariants as status

-- the bytes are no schedule file's text, and the fault is their first
pub record IsBadPlans (bytes : List ℕ) (f : Fault) : Type 0 where
  pub first : TextFault
  pub is_first : IsPlanFault bytes first
  pub no_plans : (b : PlanBook) → PlanText bytes b → ⊥
  pub fault_is : f ≡ fault.Text first

-- the schedule file of a text
abbrev pub plans_of : List ℕ → Stage PlanBook
plans_of bytes = record { status = status.BadText; Passes = PlanText bytes; FaultIs = IsBadPlans bytes }
