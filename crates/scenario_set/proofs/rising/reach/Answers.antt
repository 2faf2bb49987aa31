use Rattle.std.proofs.Common.{arith}
use Rattle.scenario_set.proofs.RisingFacts.{reached_next}
use Rattle.scenario_set.proofs.rising.reach.Goals as goal

pub returns-in_ok-push : goal.returns-in_ok-push
returns-in_ok-push c =
    reached_next c.args.each.now.items c.push.new.self.items c.args.i c.args.name.now (record { name = c.in_ok-name.name; own = c.new-own.result }) (omega arith) c.in_ok-push.ensures.items c.in_ok-name.ensures c.new-own.ensures.items
