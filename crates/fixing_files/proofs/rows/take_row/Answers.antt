use Rattle.std.proofs.Common.{◌≡◌, Some, length, refl, arith, slice_get}
use Rattle.std.proofs.lemmas.Option.{slice_get_read}
use Rattle.fixing_files.proofs.RowFacts.{added_after, added_at, on_ok, runs_long}
use Rattle.fixing_files.proofs.rows.take_row.Goals as goal

pub returns-clause-added : goal.returns-clause-added
returns-clause-added c =
    let runs = c.reach.new.runs.items in
    let is : slice_get runs c.args.label ≡ Some c.index_mut.result.now = slice_get_read runs (length runs) c.args.label c.index_mut.result.now refl (omega (arith, c.in_ok-reach.ensures.reached, runs_long c.reach.new.runs)) c.index_mut.ensures.value in
    on_ok _ _ c.take.result
    (λ adds. added_after c.args.runs.now.items runs _ c.args.label c.args.row c.in_ok-reach.ensures.same (added_at runs c.args.label c.index_mut.result.now c.take.new.self c.args.row is adds))
    c.take.ensures.added
