use Rattle.std.proofs.Common.{ℕ, List, refl, subst}
use Rattle.std.specs.Prelude.{Err}
use Rattle.contract_parse.specs.declared.faults.ParseErr.{ParseErr}
use Rattle.schedule_forms.specs.PlanBooks.{plan_book}
use Rattle.schedule_forms.specs.PlanSpelling.{PlanText}
use Rattle.schedule_forms.specs.PlanTexts.{PlanAnswers}
use Rattle.schedule_forms.specs.declared.plan_file.PlanFile.{PlanFile}
use Rattle.text_commands.specs.ExpandStages.{IsBadPlans}
use Rattle.command_courses.specs.Inputs.{bytes_of, file_at}
use Rattle.command_courses.proofs.StopFacts.{text_stops}
use Rattle.text_commands.proofs.expand.plans_of.Goals as goal

pub returns-in_err-file : goal.returns-in_err-file
returns-in_err-file c =
    let bytes = file_at (bytes_of c.args.inputs.files.now) 0 in
    text_stops (λ (file : PlanFile). PlanText bytes (plan_book file)) (IsBadPlans bytes) (λ (e : ParseErr). PlanAnswers bytes (Err e))
    (λ f h. record { first = f; is_first = h.0; no_plans = h.1; fault_is = refl })
    c.in_err-file.field-0.0 c.from_residual.result (subst (λ (x : List ℕ). PlanAnswers x (Err c.in_err-file.field-0.0)) c.file.ensures.is c.in_err-file.ensures.answer)
    c.from_residual.ensures.1
