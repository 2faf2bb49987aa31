use Rattle.std.proofs.Common.{◌≡◌, ℕ, ℤ, pos, ◌+ℤ◌, ◌+◌, Option, Ok, FitsSigned, w64, Result, ap, ◌∙◌, rules}
use Rattle.std.proofs.lemmas.Int.{to_z-of_z}
use Rattle.term_model.specs.declared.values.Value.{Value}
use Rattle.term_model.specs.declared.values.Missing.{Missing}
use Rattle.term_model.specs.Declarations.{declarations}
use Rattle.payoff_terms.specs.TemplateDates.{date, day_of}
use Rattle.payoff_terms.specs.Code.{value_expression, payoff_code}
use Rattle.payoff_eval.specs.declared.walk.Worth.{Worth}
use Rattle.payoff_eval.specs.CodeEvaluations.{asked_of}
use Rattle.payoff_eval.specs.CodeRuns.{answer_of, run_code}
use Rattle.expr_eval.specs.Trials.{first_tried}
use Rattle.payoff_eval.proofs.StepFacts.{loop_some}
use Rattle.payoff_eval.proofs.walk.+walking.Goals as goal

pub walk_loop-returns-in-Some-clause-worth : goal.walk_loop-returns-in-Some-clause-worth
walk_loop-returns-in-Some-clause-worth t c =
    let d = declarations c.args.asking.now.decls.now in
    let run : ℤ → Result Worth Missing = λ b. run_code d c.args.decimals (payoff_code c.args.hit.now) c.args.scratch.now.entries c.args.asking.now.fixings.now c.args.asking.now.setting.now (asked_of c.args.asking.now) b in
    let base : FitsSigned w64 c.args.base = c.ranges.base in
    let fits : FitsSigned w64 c.days_later.result = search rules in
    let day : c.days_later.result ≡ c.args.base +ℤ pos c.in-Some.first = simp to_z-of_z at c.days_later.ensures.day in
    let entered : c.walk.result ≡ run (c.args.base +ℤ pos c.in-Some.first) = c.walk.ensures.worth ∙ ap run (to_z-of_z w64 c.days_later.result fits ∙ day) in
    let answers : ℕ → Result Value Missing = λ i. answer_of d (value_expression c.args.test.now) c.args.scratch.now.entries c.args.asking.now.fixings.now c.args.asking.now.setting.now (c.args.base +ℤ pos i) in
    let tried : c.first_day.result ≡ first_tried (c.count-days.result + 1) answers = simp to_z-of_z at c.first_day.ensures.day in
    loop_some c.count-days.result (day_of c.args.asking.now.setting.now (date c.args.upto.now)) answers (λ n. run (c.args.base +ℤ pos n)) _ c.walk.result c.first_day.result c.in-Some.first c.count-days.ensures.value tried (c.in_ok-first.was ∙ ap (λ (o : Option ℕ). Ok o) c.in-Some.is) entered
