use Rattle.fixing_files.proofs.RowFacts.{runs_push, same_itself, same_push}
use Rattle.fixing_files.proofs.rows.reach.Goals as goal

pub loop-alloc-init : goal.loop-alloc-init
loop-alloc-init c = (c.requires.runs, same_itself c.args.runs.now.items)

pub loop-alloc-preserved : goal.loop-alloc-preserved
loop-alloc-preserved c =
    let runs = c.loop-alloc.runs.items in
    rw c.in_ok-push.ensures.items (runs_push runs c.new.result c.loop-alloc.invariant.0 c.new.ensures.run, same_push c.args.runs.now.items runs c.new.result c.loop-alloc.invariant.1 c.new.ensures.none)
