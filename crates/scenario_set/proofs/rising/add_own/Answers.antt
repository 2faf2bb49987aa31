use Rattle.std.proofs.Common.{refl}
use Rattle.scenario_set.proofs.RisingFacts.{adds_own}
use Rattle.scenario_set.proofs.rising.add_own.Goals as goal

pub returns : goal.returns
returns c =
    adds_own c.args.each.now.items c.reach.new.each.items c.args.i c.args.name.now c.index_mut.result.now (record { name = c.index_mut.result.now.name; own = c.add_behind.new.rows }) c.args.row c.add_behind.result c.in_ok-reach.ensures c.index_mut.ensures.value refl c.add_behind.ensures
