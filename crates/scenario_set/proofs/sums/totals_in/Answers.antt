use Rattle.std.proofs.Common.{List, subst, sym}
use Rattle.fixing_files.specs.Layers.{HoldSame}
use Rattle.scenario_set.specs.Scenarios.{SameScenarios, maps_of, rows_held}
use Rattle.scenario_set.specs.Surveys.{inquiry}
use Rattle.scenario_set.specs.declared.scenarios.Scenario.{Scenario}
use Rattle.scenario_set.specs.declared.scenarios.SetRow.{SetRow}
use Rattle.scenario_set.proofs.HeldFacts.{laid_same}
use Rattle.scenario_set.proofs.OneTotalFacts.{answers_same}
use Rattle.scenario_set.proofs.SurveyFacts.{surveyed_same}
use Rattle.scenario_set.proofs.sums.totals_in.Goals as goal

pub totals_of-requires : goal.totals_of-requires
totals_of-requires c =
    let rows = c.set.inside.common.items in
    let common : HoldSame c.in-Ok.common (rows_held rows) = subst (λ (l : List SetRow). HoldSame c.in-Ok.common (rows_held l)) c.deref.ensures.value c.in-Ok.ensures in
    let laid = laid_same rows c.set.inside.each.items c.args.set.now c.in-Ok.common c.set.view_is common in
    let same = subst (λ (each : List Scenario). SameScenarios (maps_of c.in-Ok.common each) c.args.set.now) (sym c.deref-2.ensures.value) laid in
    surveyed_same (inquiry c.args.asking.now) (maps_of c.in-Ok.common c.deref-2.result.now) c.args.set.now same c.requires

pub returns-clause-answer : goal.returns-clause-answer
returns-clause-answer c =
    let rows = c.set.inside.common.items in
    let common : HoldSame c.in-Ok.common (rows_held rows) = subst (λ (l : List SetRow). HoldSame c.in-Ok.common (rows_held l)) c.deref.ensures.value c.in-Ok.ensures in
    let laid = laid_same rows c.set.inside.each.items c.args.set.now c.in-Ok.common c.set.view_is common in
    let same = subst (λ (each : List Scenario). SameScenarios (maps_of c.in-Ok.common each) c.args.set.now) (sym c.deref-2.ensures.value) laid in
    answers_same c.code_values_are_fixed.ensures (inquiry c.args.asking.now) (maps_of c.in-Ok.common c.deref-2.result.now) c.args.set.now c.totals_of.result same c.totals_of.ensures.answer
