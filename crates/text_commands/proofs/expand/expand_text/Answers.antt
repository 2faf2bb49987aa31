use Rattle.std.proofs.Common.{ℕ, inl, refl}
use Rattle.std.specs.Global.{Vec}
use Rattle.schedule_forms.specs.PlanBooks.{expanded_book, plan_book}
use Rattle.schedule_forms.proofs.ExpandedTexts.{expanded_spellable}
use Rattle.schedule_forms.proofs.TextPlans.{texts_expandable}
use Rattle.command_courses.specs.Course.{Stops, Tells}
use Rattle.command_courses.specs.Inputs.{bytes_of, file_at}
use Rattle.command_courses.specs.declared.status.Status.TheVariants as status
use Rattle.command_courses.proofs.StopFacts.{answers_too, goes_behind}
use Rattle.used_contracts.specs.AllAccepted.{IsRefusedOf}
use Rattle.text_commands.specs.ExpandCourse.{expand_on}
use Rattle.text_commands.specs.ExpandParts.{ArePrintedExpansions}
use Rattle.text_commands.specs.ExpandStages.{plans_of}
use Rattle.text_commands.proofs.ExpandFacts.{expansions_writable}
use Rattle.text_commands.proofs.expand.expand_text.Goals as goal

pub expansions_text-requires-clause-plans : goal.expansions_text-requires-clause-plans
expansions_text-requires-clause-plans c = texts_expandable (file_at (bytes_of c.args.inputs.files.now) 0) (plan_book c.in_ok-file.file) c.in_ok-file.ensures

pub expansions_text-requires-clause-writable : goal.expansions_text-requires-clause-writable
expansions_text-requires-clause-writable c =
    let b = plan_book c.in_ok-file.file in
    expansions_writable b.declarations b.plans (expanded_spellable (file_at (bytes_of c.args.inputs.files.now) 0) b c.in_ok-file.ensures).each

pub returns : goal.returns
returns c =
    let b = plan_book c.in_ok-file.file in
    let course = expand_on b in
    goes_behind (plans_of (file_at (bytes_of c.args.inputs.files.now) 0)) expand_on b c.in_ok-file.ensures c.expansions_text.result
    (answers_too (λ (text : Vec ℕ). ArePrintedExpansions b.declarations b.plans text.items) (λ (text : Vec ℕ). Tells course status.Done text.items)
    (IsRefusedOf b.declarations (expanded_book b).contracts) (Stops course)
    (λ text printed. (tt, printed.accepted, (refl, printed.canon))) (λ f h. inl h) c.expansions_text.result c.expansions_text.ensures)
