use Rattle.std.proofs.Common.{rules, arith, ◌≡◌, true, sym, subst, ap, ap₂, ◌∙◌, ◌+◌, ℤ, List, pos, ◌+ℤ◌, ◌-ℤ◌, FitsSigned, w64, to_z, of_z, Ok}
use Rattle.std.specs.Int.{w128}
use Rattle.std.proofs.lemmas.Int.{to_z-of_z}
use Rattle.term_model.specs.declared.terms.Expr.{Expr}
use Rattle.term_model.specs.Declarations.{Declarations, declarations}
use Rattle.term_model.specs.Terms.{Expression, expression, Neg, Num, Cmp, Not, Logic, Div, Acc}
use Rattle.term_model.specs.Environments.{Environment}
use Rattle.interval_check.specs.Safety.{IsSmall}
use Rattle.term_model.specs.Values.{num_op}
use Rattle.expr_eval.specs.declared.scratch.Binding.{Binding}
use Rattle.expr_eval.specs.Comparing.{number_found}
use Rattle.expr_eval.specs.Bindings.{bindings}
use Rattle.expr_eval.specs.Runs.{Answer, run_of}
use Rattle.expr_eval.specs.Levels.{stays_level}
use Rattle.expr_eval.proofs.Days.{days_go_on, days_tried-err, days_tried-stop, acc_is}
use Rattle.expr_eval.proofs.LevelFacts.{AreSmall, first_chosen, level_day, operands_combined, operands_small, second_chosen, stays_so}
use Rattle.expr_eval.proofs.evaluation.+evaluation.Goals as goal

-- the same of a part of this form, on the same day
run_is : (d : Declarations) (x : Expression) (e : Expr) (g : List Binding) (env : Environment) (f t : ℤ) (r : Answer) → r ≡ run_of d x g env t → t ≡ f → x ≡ expression e → r ≡ run_of d (expression e) g env f
run_is d x e g env f t r is day form = is ∙ ap (λ (u : ℤ). run_of d x g env u) day ∙ ap (λ (y : Expression). run_of d y g env f) form

pub evaluate-returns-in-Neg : goal.evaluate-returns-in-Neg
evaluate-returns-in-Neg t c =
    run_is (declarations c.args.decls.now) (Neg (expression c.deref.result.now)) c.args.e.now (bindings c.args.names.now) c.args.fixings.now c.args.day _ c.evaluate_one.result c.evaluate_one.ensures (to_z-of_z w64 c.args.day c.ranges.day)
    (ap (λ (x : Expr). Neg (expression x)) c.deref.ensures ∙ ap (λ (x : Expr). expression x) (sym c.in-Neg.is))

pub evaluate-returns-in-Num : goal.evaluate-returns-in-Num
evaluate-returns-in-Num t c =
    run_is (declarations c.args.decls.now) _ c.args.e.now (bindings c.args.names.now) c.args.fixings.now c.args.day _ c.evaluate_combined.result c.evaluate_combined.ensures (to_z-of_z w64 c.args.day c.ranges.day)
    (ap₂ (λ (x y : Expr). Num c.in-Num.op (expression x) (expression y)) c.deref-in-Num.ensures c.deref-in-Num-2.ensures ∙ ap (λ (x : Expr). expression x) (sym c.in-Num.is))

pub evaluate-returns-in-Cmp : goal.evaluate-returns-in-Cmp
evaluate-returns-in-Cmp t c =
    run_is (declarations c.args.decls.now) _ c.args.e.now (bindings c.args.names.now) c.args.fixings.now c.args.day _ c.evaluate_compared.result c.evaluate_compared.ensures (to_z-of_z w64 c.args.day c.ranges.day)
    (ap₂ (λ (x y : Expr). Cmp c.in-Cmp.op (expression x) (expression y)) c.deref-in-Cmp.ensures c.deref-in-Cmp-2.ensures ∙ ap (λ (x : Expr). expression x) (sym c.in-Cmp.is))

pub evaluate-returns-in-Not : goal.evaluate-returns-in-Not
evaluate-returns-in-Not t c =
    run_is (declarations c.args.decls.now) (Not (expression c.deref-in-Not.result.now)) c.args.e.now (bindings c.args.names.now) c.args.fixings.now c.args.day _ c.evaluate_one-in-Not.result c.evaluate_one-in-Not.ensures (to_z-of_z w64 c.args.day c.ranges.day)
    (ap (λ (x : Expr). Not (expression x)) c.deref-in-Not.ensures ∙ ap (λ (x : Expr). expression x) (sym c.in-Not.is))

pub evaluate-returns-in-Logic : goal.evaluate-returns-in-Logic
evaluate-returns-in-Logic t c =
    run_is (declarations c.args.decls.now) _ c.args.e.now (bindings c.args.names.now) c.args.fixings.now c.args.day _ c.evaluate_logic.result c.evaluate_logic.ensures (to_z-of_z w64 c.args.day c.ranges.day)
    (ap₂ (λ (x y : Expr). Logic c.in-Logic.op (expression x) (expression y)) c.deref-in-Logic.ensures c.deref-in-Logic-2.ensures ∙ ap (λ (x : Expr). expression x) (sym c.in-Logic.is))

pub evaluate-returns-in-Div : goal.evaluate-returns-in-Div
evaluate-returns-in-Div t c =
    run_is (declarations c.args.decls.now) _ c.args.e.now (bindings c.args.names.now) c.args.fixings.now c.args.day _ c.evaluate_quotient.result c.evaluate_quotient.ensures (to_z-of_z w64 c.args.day c.ranges.day)
    (ap₂ (λ (x y : Expr). Div c.in-Div.mode c.in-Div.scale (expression x) (expression y)) c.deref-in-Div.ensures c.deref-in-Div-2.ensures ∙ ap (λ (x : Expr). expression x) (sym c.in-Div.is))

pub evaluate_days-returns-in_err-value : goal.evaluate_days-returns-in_err-value
evaluate_days-returns-in_err-value t c = grind (arith, days_tried-err)

pub evaluate_days-returns-in_err-value-2 : goal.evaluate_days-returns-in_err-value-2
evaluate_days-returns-in_err-value-2 t c = grind (arith, to_z-of_z, days_tried-stop)

pub evaluate-returns-in-Acc : goal.evaluate-returns-in-Acc
evaluate-returns-in-Acc t c =
    let d = declarations c.args.decls.now in
    let g = bindings c.args.names.now in
    let env = c.args.fixings.now in
    let f = c.args.day in
    let fits : FitsSigned w64 c.days_earlier-from.result = search rules in
    let of_day : FitsSigned w64 f = c.ranges.day in
    let from_is : c.days_earlier-from.result ≡ f -ℤ pos c.in-Acc.days = simp to_z-of_z at c.days_earlier-from.ensures.day in
    let same : run_of d (Acc (expression c.in-Acc.body.value) c.in-Acc.days (expression c.in-Acc.first.value)) g env f ≡ run_of d (expression c.args.e.now) g env f =
    ap (λ (x : Expr). run_of d (expression x) g env f) (sym c.in-Acc.is) in
    acc_is d c.in-Acc.body.value c.deref-in-Acc.result.now c.in-Acc.first.value c.deref-in-Acc-2.result.now c.in-Acc.days g env f c.days_earlier-from.result _ c.evaluate_days.result c.deref-in-Acc.ensures c.deref-in-Acc-2.ensures (to_z-of_z w64 c.days_earlier-from.result fits) from_is c.evaluate_days.ensures
    ∙ same

pub evaluate_day-returns-then-level : goal.evaluate_day-returns-then-level
evaluate_day-returns-then-level t c =
    let d = declarations c.args.decls.now in
    let g = bindings c.args.names.now in
    let F = c.args.fixings.now in
    let stays : stays_level d (expression c.args.body.now) g c.args.value ≡ true = search rules in
    let fits : FitsSigned w128 c.in_ok-mant.mant = search rules in
    let next = level_day d (expression c.args.body.now) g c.args.value stays F c.args.day c.in_ok-mant.mant in
    grind (arith, to_z-of_z, next, c.mantissa_at.ensures, c.in_ok-mant.was)

pub evaluate_days-loop-i-preserved : goal.evaluate_days-loop-i-preserved
evaluate_days-loop-i-preserved t c =
    let d = declarations c.args.decls.now in
    let g = bindings c.args.names.now in
    let F = c.args.fixings.now in
    let fits : FitsSigned w64 c.days_later-day.result = search rules in
    let day : to_z w64 (of_z w64 c.days_later-day.result) ≡ to_z w64 (of_z w64 c.args.from) +ℤ pos (c.loop-i.i + 1) =
    to_z-of_z w64 c.days_later-day.result fits ∙ c.days_later-day.ensures.day in (
      days_go_on d c.args.body.now c.args.first.now g F (to_z w64 (of_z w64 c.args.from)) c.loop-i.i c.loop-i.value (to_z w64 (of_z w64 c.days_later-day.result)) c.evaluate_day.result c.loop-i.invariant.0 day c.evaluate_day.ensures c.in_ok-value-2.value c.in_ok-value-2.was,
      (λ level. stays_so d (expression c.args.body.now) g c.loop-i.value (c.loop-i.invariant.1 level) F (to_z w64 (of_z w64 c.days_later-day.result)) c.in_ok-value-2.value (sym c.evaluate_day.ensures ∙ c.in_ok-value-2.was)),
    )

pub mantissa_chosen-returns-then-is_true : goal.mantissa_chosen-returns-then-is_true
mantissa_chosen-returns-then-is_true t c =
    let d = declarations c.args.decls.now in
    let g = bindings c.args.names.now in
    let F = c.args.fixings.now in
    let is : run_of d (expression c.args.test.now) g F c.args.day ≡ Ok c.in_ok-chosen.chosen = search rules in
    c.mantissa_at.ensures
    ∙ ap (λ (f : ℤ). number_found (run_of d (expression c.args.yes.now) g F f)) (to_z-of_z w64 c.args.day c.ranges.day)
    ∙ first_chosen d (expression c.args.test.now) (expression c.args.yes.now) (expression c.args.no.now) g F c.args.day c.requires.level.scale c.requires.level.level c.in_ok-chosen.chosen is (sym c.is_true.ensures ∙ c.if-is_true.true)

pub mantissa_chosen-returns-else-is_true : goal.mantissa_chosen-returns-else-is_true
mantissa_chosen-returns-else-is_true t c =
    let d = declarations c.args.decls.now in
    let g = bindings c.args.names.now in
    let F = c.args.fixings.now in
    let is : run_of d (expression c.args.test.now) g F c.args.day ≡ Ok c.in_ok-chosen.chosen = search rules in
    c.mantissa_at-else-is_true.ensures
    ∙ ap (λ (f : ℤ). number_found (run_of d (expression c.args.no.now) g F f)) (to_z-of_z w64 c.args.day c.ranges.day)
    ∙ second_chosen d (expression c.args.test.now) (expression c.args.yes.now) (expression c.args.no.now) g F c.args.day c.requires.level.scale c.requires.level.level c.in_ok-chosen.chosen is (sym c.is_true.ensures ∙ c.if-is_true.false)

pub mantissa_combined-on_aligned-requires-clause-x : goal.mantissa_combined-on_aligned-requires-clause-x
mantissa_combined-on_aligned-requires-clause-x t c =
    let d = declarations c.args.decls.now in
    let g = bindings c.args.names.now in
    let F = c.args.fixings.now in
    let a = expression c.args.left.now in
    let b = expression c.args.right.now in
    let x = c.in_ok-x.x in
    let y = c.in_ok-y.y in
    let same = to_z-of_z w64 c.args.day c.ranges.day in
    let p : number_found (run_of d a g F c.args.day) ≡ Ok x = sym (c.mantissa_at.ensures ∙ ap (λ (f : ℤ). number_found (run_of d a g F f)) same) ∙ c.in_ok-x.was in
    let q : number_found (run_of d b g F c.args.day) ≡ Ok y = sym (c.mantissa_at-2.ensures ∙ ap (λ (f : ℤ). number_found (run_of d b g F f)) same) ∙ c.in_ok-y.was in
    let of_x : FitsSigned w128 x = search rules in
    let of_y : FitsSigned w128 y = search rules in
    let small : AreSmall c.args.op x y = operands_small d c.args.op a b g F c.args.day c.requires.level.scale c.requires.level.level x y c.requires.fits p q in
    subst (λ (z : ℤ). IsSmall z) (sym (to_z-of_z w128 x of_x)) small.left

pub mantissa_combined-on_aligned-requires-clause-y : goal.mantissa_combined-on_aligned-requires-clause-y
mantissa_combined-on_aligned-requires-clause-y t c =
    let d = declarations c.args.decls.now in
    let g = bindings c.args.names.now in
    let F = c.args.fixings.now in
    let a = expression c.args.left.now in
    let b = expression c.args.right.now in
    let x = c.in_ok-x.x in
    let y = c.in_ok-y.y in
    let same = to_z-of_z w64 c.args.day c.ranges.day in
    let p : number_found (run_of d a g F c.args.day) ≡ Ok x = sym (c.mantissa_at.ensures ∙ ap (λ (f : ℤ). number_found (run_of d a g F f)) same) ∙ c.in_ok-x.was in
    let q : number_found (run_of d b g F c.args.day) ≡ Ok y = sym (c.mantissa_at-2.ensures ∙ ap (λ (f : ℤ). number_found (run_of d b g F f)) same) ∙ c.in_ok-y.was in
    let of_x : FitsSigned w128 x = search rules in
    let of_y : FitsSigned w128 y = search rules in
    let small : AreSmall c.args.op x y = operands_small d c.args.op a b g F c.args.day c.requires.level.scale c.requires.level.level x y c.requires.fits p q in
    subst (λ (z : ℤ). IsSmall z) (sym (to_z-of_z w128 y of_y)) small.right

pub mantissa_combined-on_aligned-requires-clause-outcome : goal.mantissa_combined-on_aligned-requires-clause-outcome
mantissa_combined-on_aligned-requires-clause-outcome t c =
    let d = declarations c.args.decls.now in
    let g = bindings c.args.names.now in
    let F = c.args.fixings.now in
    let a = expression c.args.left.now in
    let b = expression c.args.right.now in
    let x = c.in_ok-x.x in
    let y = c.in_ok-y.y in
    let same = to_z-of_z w64 c.args.day c.ranges.day in
    let p : number_found (run_of d a g F c.args.day) ≡ Ok x = sym (c.mantissa_at.ensures ∙ ap (λ (f : ℤ). number_found (run_of d a g F f)) same) ∙ c.in_ok-x.was in
    let q : number_found (run_of d b g F c.args.day) ≡ Ok y = sym (c.mantissa_at-2.ensures ∙ ap (λ (f : ℤ). number_found (run_of d b g F f)) same) ∙ c.in_ok-y.was in
    let of_x : FitsSigned w128 x = search rules in
    let of_y : FitsSigned w128 y = search rules in
    let small : AreSmall c.args.op x y = operands_small d c.args.op a b g F c.args.day c.requires.level.scale c.requires.level.level x y c.requires.fits p q in
    subst (λ (z : ℤ). IsSmall z) (sym (ap₂ (num_op c.args.op) (to_z-of_z w128 x of_x) (to_z-of_z w128 y of_y))) small.outcome

pub mantissa_combined-returns : goal.mantissa_combined-returns
mantissa_combined-returns t c =
    let d = declarations c.args.decls.now in
    let g = bindings c.args.names.now in
    let F = c.args.fixings.now in
    let a = expression c.args.left.now in
    let b = expression c.args.right.now in
    let x = c.in_ok-x.x in
    let y = c.in_ok-y.y in
    let same = to_z-of_z w64 c.args.day c.ranges.day in
    let p : number_found (run_of d a g F c.args.day) ≡ Ok x = sym (c.mantissa_at.ensures ∙ ap (λ (f : ℤ). number_found (run_of d a g F f)) same) ∙ c.in_ok-x.was in
    let q : number_found (run_of d b g F c.args.day) ≡ Ok y = sym (c.mantissa_at-2.ensures ∙ ap (λ (f : ℤ). number_found (run_of d b g F f)) same) ∙ c.in_ok-y.was in
    let of_x : FitsSigned w128 x = search rules in
    let of_y : FitsSigned w128 y = search rules in
    let of_r : FitsSigned w128 c.on_aligned.result = search rules in
    let is : to_z w128 (of_z w128 c.on_aligned.result) ≡ num_op c.args.op x y =
    to_z-of_z w128 c.on_aligned.result of_r ∙ c.on_aligned.ensures ∙ ap₂ (num_op c.args.op) (to_z-of_z w128 x of_x) (to_z-of_z w128 y of_y) in
    ap (λ (z : ℤ). Ok z) is ∙ operands_combined d c.args.op a b g F c.args.day c.requires.level.scale c.requires.level.level x y p q
