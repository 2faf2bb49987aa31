use Rattle.std.proofs.Common.{rules, arith, ◌≡◌, sym, ap, subst, ◌∙◌, Ok, pos, ◌-ℤ◌, FitsSigned, w64}
use Rattle.std.proofs.lemmas.Int.{to_z-of_z}
use Rattle.payoff_terms.specs.declared.code.Vx.{Vx}
use Rattle.payoff_terms.specs.Code.{value_expression}
use Rattle.payoff_terms.specs.Dating.{at_setting}
use Rattle.term_model.specs.Declarations.{declarations}
use Rattle.term_model.specs.Terms.{Cmp, Div, Acc}
use Rattle.expr_eval.specs.Bindings.{bindings}
use Rattle.expr_eval.specs.Runs.{run_of, both_of}
use Rattle.expr_eval.specs.Fits.{Fits}
use Rattle.expr_eval.specs.Operations.{Compares, DividesTo}
use Rattle.expr_eval.proofs.Days.{days_tried-err, days_tried-stop}
use Rattle.payoff_eval.proofs.AccFacts.{acc_is}
use Rattle.expr_eval.proofs.Operands.{of_both}
use Rattle.payoff_eval.proofs.evaluation.+evaluation.Goals as goal

pub evaluate_days-returns-in_err-value : goal.evaluate_days-returns-in_err-value
evaluate_days-returns-in_err-value t c = grind (arith, days_tried-err)

pub evaluate_days-returns-in_err-value-2 : goal.evaluate_days-returns-in_err-value-2
evaluate_days-returns-in_err-value-2 t c = grind (arith, to_z-of_z, days_tried-stop)

pub evaluate-compare-requires : goal.evaluate-compare-requires
evaluate-compare-requires t c =
    let d = declarations c.args.asking.now.decls.now in
    let g = bindings c.args.names.now in
    let env = c.args.asking.now.fixings.now in
    let f = c.args.day in
    let a = at_setting c.args.asking.now.setting.now (value_expression c.in-Cmp.left.value) in
    let b = at_setting c.args.asking.now.setting.now (value_expression c.in-Cmp.right.value) in
    let h : Fits d (Cmp c.in-Cmp.op a b) g env f = subst (λ (x : Vx). Fits d (at_setting c.args.asking.now.setting.now (value_expression x)) g env f) c.in-Cmp.is c.requires.fits in
    let e : both_of (run_of d a g env f) (run_of d b g env f) ≡ Ok c.in_ok-both-in-Cmp.both = search rules in
    of_both (run_of d a g env f) (run_of d b g env f) Compares c.in_ok-both-in-Cmp.both h.2 e

pub evaluate-divide-requires : goal.evaluate-divide-requires
evaluate-divide-requires t c =
    let d = declarations c.args.asking.now.decls.now in
    let g = bindings c.args.names.now in
    let env = c.args.asking.now.fixings.now in
    let f = c.args.day in
    let s = c.in-Div.scale in
    let a = at_setting c.args.asking.now.setting.now (value_expression c.in-Div.top.value) in
    let b = at_setting c.args.asking.now.setting.now (value_expression c.in-Div.below.value) in
    let h : Fits d (Div c.in-Div.mode s a b) g env f = subst (λ (x : Vx). Fits d (at_setting c.args.asking.now.setting.now (value_expression x)) g env f) c.in-Div.is c.requires.fits in
    let e : both_of (run_of d a g env f) (run_of d b g env f) ≡ Ok c.in_ok-both-in-Div.both = search rules in
    of_both (run_of d a g env f) (run_of d b g env f) (DividesTo s) c.in_ok-both-in-Div.both h.2 e

pub evaluate-returns-in-Acc : goal.evaluate-returns-in-Acc
evaluate-returns-in-Acc t c =
    let d = declarations c.args.asking.now.decls.now in
    let g = bindings c.args.names.now in
    let env = c.args.asking.now.fixings.now in
    let f = c.args.day in
    let fits : FitsSigned w64 c.days_earlier-from.result = search rules in
    let of_day : FitsSigned w64 f = c.ranges.day in
    let from_is : c.days_earlier-from.result ≡ f -ℤ pos c.in-Acc.days = simp to_z-of_z at c.days_earlier-from.ensures.day in
    let same : run_of d (Acc (at_setting c.args.asking.now.setting.now (value_expression c.in-Acc.body.value)) c.in-Acc.days (at_setting c.args.asking.now.setting.now (value_expression c.in-Acc.first.value))) g env f ≡ run_of d (at_setting c.args.asking.now.setting.now (value_expression c.args.e.now)) g env f =
    ap (λ (x : Vx). run_of d (at_setting c.args.asking.now.setting.now (value_expression x)) g env f) (sym c.in-Acc.is) in
    acc_is d c.args.asking.now.setting.now c.in-Acc.body.value c.deref-in-Acc-2.result.now c.in-Acc.first.value c.deref-in-Acc.result.now c.in-Acc.days g env f c.days_earlier-from.result _ c.evaluate-start.result c.evaluate_days.result c.deref-in-Acc-2.ensures c.deref-in-Acc.ensures (to_z-of_z w64 c.days_earlier-from.result fits) from_is c.evaluate-start.ensures c.evaluate_days.ensures
    ∙ same
