use Rattle.std.proofs.Common.{◌∙◌, ◌++◌, ◌<◌, ap, arith, length, refl, sym}
use Rattle.std.proofs.lemmas.List.{length-map}
use Rattle.term_model.specs.Declarations.{declarations}
use Rattle.payoff_eval.proofs.SizeFacts.{face_is_factor}
use Rattle.scenario_set.specs.Scenarios.{IsMapOf, map_of, maps_of, rows_held}
use Rattle.scenario_set.specs.Surveys.{asked_in}
use Rattle.scenario_set.specs.declared.scenarios.Scenario.{Scenario}
use Rattle.scenario_set.proofs.HeldFacts.{map_is}
use Rattle.scenario_set.proofs.WorthFacts.{admitted_map, answers_is}
use Rattle.scenario_set.proofs.sums.value_in.Goals as goal

pub value_over-requires-clause-over : goal.value_over-requires-clause-over
value_over-requires-clause-over c =
    let survey = c.args.survey.now in
    let common = survey.common.now in
    let each = survey.each.now in
    let env = rows_held c.deref.result.now ++ common in
    let s = c.index-survey-i.result in
    let within : c.args.i < length (maps_of common each) = omega (arith, length-map each (map_of common), c.requires.scenario) in
    let rows = c.deref.ensures.value ∙ ap (λ (x : Scenario). x.own.items) (sym c.index-survey-i.is) in
    let is : IsMapOf (maps_of common each) c.args.i env = map_is common each (maps_of common each) c.args.i s c.deref.result.now (rows_held c.deref.result.now) env env refl within c.index-survey-i.is rows (λ q. refl) (λ q. refl) (λ q. refl) in
    record {
      asked = c.requires.survey.asked;
      admitted = admitted_map (declarations survey.asking.now.file.now.decls) (maps_of common each) c.args.i env c.requires.survey.admitted is;
    }

pub returns-clause-worth : goal.returns-clause-worth
returns-clause-worth c =
    let survey = c.args.survey.now in
    let q = asked_in survey in
    let common = survey.common.now in
    let each = survey.each.now in
    let env = rows_held c.deref.result.now ++ common in
    let s = c.index-survey-i.result in
    let within : c.args.i < length (maps_of common each) = omega (arith, length-map each (map_of common), c.requires.scenario) in
    let rows = c.deref.ensures.value ∙ ap (λ (x : Scenario). x.own.items) (sym c.index-survey-i.is) in
    let is : IsMapOf (maps_of common each) c.args.i env = map_is common each (maps_of common each) c.args.i s c.deref.result.now (rows_held c.deref.result.now) env env refl within c.index-survey-i.is rows (λ q. refl) (λ q. refl) (λ q. refl) in
    rw c.told.ensures (answers_is q (maps_of common each) c.args.i env c.in-Ok.found is survey.asking.now.file.now.decls.labels_in c.requires.survey.asked.code.accepted c.requires.survey.admitted c.rises.ensures.curve face_is_factor c.in-Ok.ensures.found)
