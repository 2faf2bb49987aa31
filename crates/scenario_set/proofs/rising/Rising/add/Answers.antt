use Rattle.std.proofs.Common.{IfOk, ap, refl, subst}
use Rattle.scenario_set.specs.Rising.{AddsOwn}
use Rattle.scenario_set.specs.Scopes.{scope_seen}
use Rattle.scenario_set.specs.ScenarioSteps.{told_of}
use Rattle.scenario_set.specs.declared.scenarios.SetRow.{SetRow}
use Rattle.scenario_set.proofs.RisingFacts.{adds_named}
use Rattle.scenario_set.proofs.rising.Rising.add.Goals as goal

pub returns-in_ok-i-in-Named : goal.returns-in_ok-i-in-Named
returns-in_ok-i-in-Named c =
    let adds = subst (λ (x : SetRow). IfOk c.add_own.result (AddsOwn c.args.self.now.each.items c.add_own.new.each.items c.in_ok-i-in-Named.i c.in-Named.name.now x)) c.row_of-row.ensures c.add_own.ensures in
    adds_named (told_of c.args.saying) c.args.self.now (record { names = c.number_of.new.names; each = c.add_own.new.each; common = c.args.self.now.common }) c.in-Named.name.now c.in_ok-i-in-Named.i c.add_own.result (ap scope_seen c.in-Named.is) c.in_ok-i-in-Named.ensures refl c.requires adds
