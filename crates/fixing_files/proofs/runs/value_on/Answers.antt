use Rattle.std.proofs.Common.{sym, w64}
use Rattle.std.proofs.lemmas.Int.{to_z-of_z}
use Rattle.fixing_files.proofs.RunFacts.{found_in, none_in_gap, value_at}
use Rattle.fixing_files.proofs.runs.value_on.Goals as goal

pub returns-in-Some : goal.returns-in-Some
returns-in-Some c =
    sym (found_in c.args.run.now c.args.day c.in-Some.value c.requires (rw (to_z-of_z w64 c.args.day c.ranges.day) at c.in-Some.ensures))

pub returns-in-Ok : goal.returns-in-Ok
returns-in-Ok c =
    sym (value_at c.args.run.now c.args.day c.in-Ok.at _ c.requires (rw (to_z-of_z w64 c.args.day c.ranges.day) at c.in-Ok.ensures.found))

pub returns-in-Err : goal.returns-in-Err
returns-in-Err c =
    sym (none_in_gap c.args.run.now c.args.day c.in-Err.field-0 (rw (to_z-of_z w64 c.args.day c.ranges.day) at c.in-Err.ensures.absent))
