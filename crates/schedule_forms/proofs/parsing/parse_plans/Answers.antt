use Rattle.schedule_forms.specs.PlanBooks.{plan_book}
use Rattle.schedule_forms.proofs.FileFacts.{not_plans, not_utf8}
use Rattle.schedule_forms.proofs.TextPlans.{texts_expandable}
use Rattle.schedule_forms.proofs.parsing.parse_plans.Goals as goal

pub returns-in-Err-clause-answer : goal.returns-in-Err-clause-answer
returns-in-Err-clause-answer c = not_utf8 c.args.bytes.now c.in-Err.fault c.in-Err.ensures.refused

pub returns-in-Err-Refused-clause-answer : goal.returns-in-Err-Refused-clause-answer
returns-in-Err-Refused-clause-answer c =
    let first = rw c.in-Err-Refused.field-0-is at c.in-Err-Refused.ensures.reads in
    not_plans c.args.bytes.now c.in-Err-Refused.refusal c.saturating_sub-at.result c.fault_at.result c.fault_at.ensures c.saturating_sub-at.ensures c.in_default.ensures.fits.utf8 first

pub returns-in-Ok-clause-expandable : goal.returns-in-Ok-clause-expandable
returns-in-Ok-clause-expandable c =
    texts_expandable c.args.bytes.now (plan_book c.in-Ok.file) (record { utf8 = c.in_default.ensures.fits.utf8; version = c.in-Ok.ensures.version; spelled = c.in-Ok.ensures.reads })
