use Rattle.std.proofs.Common.{◌∙◌}
use Rattle.fixing_files.proofs.RunFacts.{rising-push, run_push, values_of-push}
use Rattle.fixing_files.proofs.fixings.reach.Goals as goal

pub loop-alloc-preserved : goal.loop-alloc-preserved
loop-alloc-preserved c =
    let runs = c.loop-alloc.runs.items in
    let at = c.loop-alloc.invariant in
    let new = c.new.result in
    let none = c.new.ensures.items in
    rw c.in_ok-push.ensures.items (rising-push runs new none at.0, values_of-push runs new none ∙ at.1, λ k. run_push runs new k none ∙ at.2 k)
