use Rattle.std.proofs.Common.{ap}
use Rattle.std.proofs.lemmas.List.{take_more}
use Rattle.term_model.specs.declared.values.Value.{Value}
use Rattle.fixing_files.specs.Layers.{entries_held, no_entry}
use Rattle.fixing_files.specs.declared.records.Place.{Place as Spot}
use Rattle.fixing_files.proofs.LayerFacts.{held_set, joins_more, same_entry}
use Rattle.fixing_files.proofs.layers.joined.Goals as goal

pub loop-entry-preserved : goal.loop-entry-preserved
loop-entry-preserved c =
    let es = c.args.risen.now in
    let i = c.loop-entry.entry-index in
    let within = c.loop-entry-test.true in
    let sets = held_set c.loop-entry.all c.insert.new.self _ _ c.in_ok-insert.ensures.updates in
    joins_more es i _ (entries_held c.args.others.entries) _ _ c.requires within (ap (λ (e : Spot × Value). e.0) (same_entry es i no_entry _ within)) (take_more es i _ within) c.loop-entry.invariant sets
