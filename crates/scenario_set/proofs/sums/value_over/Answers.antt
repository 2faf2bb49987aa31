use Rattle.std.proofs.Common.{◌∙◌, ◌++◌, ℤ, ap, subst, sym}
use Rattle.term_model.specs.Declarations.{declarations}
use Rattle.term_model.specs.Environments.{Environment, held}
use Rattle.payoff_terms.specs.CodeBooks.{code_book}
use Rattle.payoff_eval.specs.CodeAnswers.{IsValueOf}
use Rattle.payoff_eval.specs.Questions.{IsQuestion, asked_on}
use Rattle.payoff_eval.proofs.SameFacts.{same_answer}
use Rattle.scenario_set.specs.Scenarios.{rows_held}
use Rattle.scenario_set.proofs.HeldFacts.{same_above}
use Rattle.scenario_set.proofs.SurveyFacts.{day_fits}
use Rattle.scenario_set.proofs.sums.value_over.Goals as goal

pub value_layered-requires-clause-code : goal.value_layered-requires-clause-code
value_layered-requires-clause-code c = c.requires.over.asked.code

pub value_layered-requires-clause-admitted : goal.value_layered-requires-clause-admitted
value_layered-requires-clause-admitted c =
    λ q v h. c.requires.over.admitted q v (sym (ap (λ (e : Environment). held e q) c.over-fixings.ensures
    ∙ same_above c.in_ok-few.few (rows_held c.args.own.now) c.args.common.now c.in_ok-few.ensures q) ∙ h)

pub value_layered-requires-clause-question : goal.value_layered-requires-clause-question
value_layered-requires-clause-question c =
    let a = c.args.asking.now in
    let d = declarations a.file.now.decls in
    let h = c.requires.over.asked.question in
    subst (λ (at : ℤ). IsQuestion d (asked_on a.curve.now at a.from a.to a.asset)) (sym (day_fits d (asked_on a.curve.now a.at a.from a.to a.asset) h)) h

pub returns-clause-found : goal.returns-clause-found
returns-clause-found c =
    let a = c.args.asking.now in
    let b = code_book a.file.now in
    let xs = a.setting.now.days.items in
    let own = c.args.own.now in
    let common = c.args.common.now in
    let same = day_fits b.declarations (asked_on a.curve.now a.at a.from a.to a.asset) c.requires.over.asked.question in
    let value = subst (λ (at : ℤ). IsValueOf b xs c.over-fixings.result (asked_on a.curve.now at a.from a.to a.asset) c.value_layered.result) same c.value_layered.ensures.answer.value in
    same_answer b xs (asked_on a.curve.now a.at a.from a.to a.asset) c.over-fixings.result (rows_held own ++ common) c.value_layered.result
    (λ q. ap (λ (e : Environment). held e q) c.over-fixings.ensures ∙ same_above c.in_ok-few.few (rows_held own) common c.in_ok-few.ensures q)
    value
