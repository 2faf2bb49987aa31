use Rattle.std.proofs.Common.{◌≡◌, ℕ, ℤ, pos, ◌+ℤ◌, ◌+◌, FitsSigned, w64, Result, Ok, None, ap, sym, ◌∙◌, arith, rules}
use Rattle.std.proofs.lemmas.Int.{to_z-of_z}
use Rattle.term_model.specs.declared.values.Value.{Value}
use Rattle.term_model.specs.declared.values.Missing.{Missing}
use Rattle.term_model.specs.Declarations.{declarations}
use Rattle.payoff_terms.specs.Code.{value_expression}
use Rattle.payoff_eval.specs.CodeRuns.{answer_of}
use Rattle.expr_eval.specs.Trials.{first_tried}
use Rattle.expr_eval.proofs.TriedFacts.{tried_missing, tried_true}
use Rattle.payoff_eval.proofs.walk.first_day.Goals as goal

pub returns-in_err-value : goal.returns-in_err-value
returns-in_err-value c =
    let answers : ℕ → Result Value Missing = λ i. answer_of (declarations c.args.asking.now.decls.now) (value_expression c.args.test.now) c.args.scratch.now.entries c.args.asking.now.fixings.now c.args.asking.now.setting.now (c.args.base +ℤ pos i) in
    let base : FitsSigned w64 c.args.base = c.ranges.base in
    let fits : FitsSigned w64 c.days_later.result = search rules in
    let day : c.days_later.result ≡ c.args.base +ℤ pos c.loop-i.i = simp to_z-of_z at c.days_later.ensures.day in
    let on : answers c.loop-i.i ≡ c.value_on.result = ap (λ (b : ℤ). answer_of (declarations c.args.asking.now.decls.now) (value_expression c.args.test.now) c.args.scratch.now.entries c.args.asking.now.fixings.now c.args.asking.now.setting.now b) (sym (to_z-of_z w64 c.days_later.result fits ∙ day)) ∙ sym c.value_on.ensures in
    let none : first_tried c.loop-i.i answers ≡ Ok None = simp to_z-of_z at c.loop-i.invariant in
    let missing = tried_missing (c.args.days + 1) c.loop-i.i answers c.in_err-value.field-0.0 (omega arith) none (on ∙ c.in_err-value.was) in
    grind (arith, missing, c.from_residual.ensures)

pub returns-then-is_true : goal.returns-then-is_true
returns-then-is_true c =
    let answers : ℕ → Result Value Missing = λ i. answer_of (declarations c.args.asking.now.decls.now) (value_expression c.args.test.now) c.args.scratch.now.entries c.args.asking.now.fixings.now c.args.asking.now.setting.now (c.args.base +ℤ pos i) in
    let base : FitsSigned w64 c.args.base = c.ranges.base in
    let fits : FitsSigned w64 c.days_later.result = search rules in
    let day : c.days_later.result ≡ c.args.base +ℤ pos c.loop-i.i = simp to_z-of_z at c.days_later.ensures.day in
    let on : answers c.loop-i.i ≡ c.value_on.result = ap (λ (b : ℤ). answer_of (declarations c.args.asking.now.decls.now) (value_expression c.args.test.now) c.args.scratch.now.entries c.args.asking.now.fixings.now c.args.asking.now.setting.now b) (sym (to_z-of_z w64 c.days_later.result fits ∙ day)) ∙ sym c.value_on.ensures in
    let none : first_tried c.loop-i.i answers ≡ Ok None = simp to_z-of_z at c.loop-i.invariant in
    record { few = omega arith; day = sym (tried_true (c.args.days + 1) c.loop-i.i answers c.in_ok-value.value (omega arith) none (on ∙ c.in_ok-value.was) (sym c.is_true.ensures ∙ c.if-is_true.true)) }
