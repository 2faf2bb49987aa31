use Rattle.std.proofs.Common.{List, subst}
use Rattle.std.specs.Prelude.{All}
use Rattle.fixing_files.specs.Layers.{HoldSame}
use Rattle.scenario_set.specs.Rising.{AreApart}
use Rattle.scenario_set.specs.Scenarios.{rows_held}
use Rattle.scenario_set.specs.declared.scenarios.Scenario.{Scenario}
use Rattle.scenario_set.specs.declared.scenarios.SetRow.{SetRow}
use Rattle.scenario_set.proofs.RisingFacts.{settled_all}
use Rattle.scenario_set.proofs.rising.settle.Goals as goal

pub returns : goal.returns
returns c =
    let env = c.in_ok-fixings.fixings in
    let same = subst (λ (l : List SetRow). HoldSame env (rows_held l)) c.deref.ensures.value c.in_ok-fixings.ensures in
    let all = subst (λ (l : List Scenario). All (λ (s : Scenario). AreApart s.own.items env) l) c.deref-2.ensures.value (c.are_apart.ensures c.if-not-are_apart.false) in
    settled_all c.args.rising env c.requires.long same all
