use Rattle.std.proofs.Common.{rules, arith, ◌≡◌, ◌+ℤ◌, pos, ℤ, w64, FitsSigned, to_z, of_z, None, Ok, ap, sym, subst, ◌∙◌}
use Rattle.std.proofs.lemmas.Int.{to_z-of_z}
use Rattle.term_model.specs.Declarations.{declarations}
use Rattle.term_model.specs.Terms.{expression, Cmp}
use Rattle.expr_eval.specs.Bindings.{bindings}
use Rattle.expr_eval.specs.Runs.{run_of, untyped}
use Rattle.expr_eval.specs.Trials.{first_tried}
use Rattle.expr_eval.proofs.TriedFacts.{trial_holds, trial_lacks}
use Rattle.expr_eval.proofs.trials.first_day_compared.Goals as goal

pub returns-in_err-holds-clause-days : goal.returns-in_err-holds-clause-days
returns-in_err-holds-clause-days c =
    let before : first_tried c.loop-i.i (λ k. untyped (run_of (declarations c.args.decls.now) (Cmp c.args.test.now.op (expression c.args.test.now.left.now) (expression c.args.test.now.right.now)) (bindings c.args.names.now) c.args.fixings.now (c.args.from +ℤ pos k))) ≡ Ok None =
    subst (λ (f : ℤ). first_tried c.loop-i.i (λ k. untyped (run_of (declarations c.args.decls.now) (Cmp c.args.test.now.op (expression c.args.test.now.left.now) (expression c.args.test.now.right.now)) (bindings c.args.names.now) c.args.fixings.now (f +ℤ pos k))) ≡ Ok None) (to_z-of_z w64 c.args.from c.ranges.from) c.loop-i.invariant in
    let fits : FitsSigned w64 c.days_later-day.result = search rules in
    let day : to_z w64 (of_z w64 c.days_later-day.result) ≡ c.args.from +ℤ pos c.loop-i.i =
    to_z-of_z w64 c.days_later-day.result fits ∙ c.days_later-day.ensures.day ∙ ap (λ (f : ℤ). f +ℤ pos c.loop-i.i) (to_z-of_z w64 c.args.from c.ranges.from) in
    let lacks = trial_lacks (declarations c.args.decls.now) (Cmp c.args.test.now.op (expression c.args.test.now.left.now) (expression c.args.test.now.right.now)) (bindings c.args.names.now) c.args.fixings.now c.args.from c.args.days c.loop-i.i (to_z w64 (of_z w64 c.days_later-day.result)) c.compares_on.result c.in_err-holds.field-0.0 c.loop-i-test.true before day c.compares_on.ensures c.in_err-holds.was in
    grind (arith, lacks, c.from_residual.ensures)

pub returns-then-holds-clause-days : goal.returns-then-holds-clause-days
returns-then-holds-clause-days c =
    let before : first_tried c.loop-i.i (λ k. untyped (run_of (declarations c.args.decls.now) (Cmp c.args.test.now.op (expression c.args.test.now.left.now) (expression c.args.test.now.right.now)) (bindings c.args.names.now) c.args.fixings.now (c.args.from +ℤ pos k))) ≡ Ok None =
    subst (λ (f : ℤ). first_tried c.loop-i.i (λ k. untyped (run_of (declarations c.args.decls.now) (Cmp c.args.test.now.op (expression c.args.test.now.left.now) (expression c.args.test.now.right.now)) (bindings c.args.names.now) c.args.fixings.now (f +ℤ pos k))) ≡ Ok None) (to_z-of_z w64 c.args.from c.ranges.from) c.loop-i.invariant in
    let fits : FitsSigned w64 c.days_later-day.result = search rules in
    let day : to_z w64 (of_z w64 c.days_later-day.result) ≡ c.args.from +ℤ pos c.loop-i.i =
    to_z-of_z w64 c.days_later-day.result fits ∙ c.days_later-day.ensures.day ∙ ap (λ (f : ℤ). f +ℤ pos c.loop-i.i) (to_z-of_z w64 c.args.from c.ranges.from) in
    sym (trial_holds (declarations c.args.decls.now) (Cmp c.args.test.now.op (expression c.args.test.now.left.now) (expression c.args.test.now.right.now)) (bindings c.args.names.now) c.args.fixings.now c.args.from c.args.days c.loop-i.i (to_z w64 (of_z w64 c.days_later-day.result)) c.compares_on.result c.in_ok-holds.holds c.loop-i-test.true before day c.compares_on.ensures c.in_ok-holds.was c.if-holds.true)
