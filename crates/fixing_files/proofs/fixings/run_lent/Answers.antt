use Rattle.std.proofs.Common.{◌∙◌, sym}
use Rattle.fixing_files.proofs.RunFacts.{run_past, run_read}
use Rattle.fixing_files.proofs.fixings.run_lent.Goals as goal

pub returns-in-Some : goal.returns-in-Some
returns-in-Some c =
    let read = c.in-Some.ensures.lookup in
    c.deref.ensures.value ∙ sym (run_read c.args.runs.now c.args.label c.in-Some.run'.now read.3.0 (read.3.1 c.in-Some.run'.now))

pub returns-in-None : goal.returns-in-None
returns-in-None c =
    let read = c.in-None.ensures.lookup in
    sym (run_past c.args.runs.now c.args.label read.3)
