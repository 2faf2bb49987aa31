use Rattle.std.proofs.Common.{rules, arith, ◌≡◌, true, sym, ap, ◌∙◌, ◌+◌, ℤ, pos, ◌+ℤ◌, ◌-ℤ◌, FitsSigned, w64, to_z, of_z, Ok, Err}
use Rattle.std.proofs.lemmas.Int.{to_z-of_z}
use Rattle.term_model.specs.declared.terms.Expr.{Expr}
use Rattle.term_model.specs.Declarations.{declarations}
use Rattle.term_model.specs.Terms.{expression, Acc}
use Rattle.expr_eval.specs.Bindings.{bindings}
use Rattle.expr_eval.specs.Runs.{days_run, run_of}
use Rattle.expr_eval.specs.Comparing.{truth_found}
use Rattle.expr_eval.specs.Truths.{is_verdict}
use Rattle.expr_eval.proofs.Days.{days_tried-err}
use Rattle.expr_eval.proofs.TruthFacts.{acc_holds, after_start, days_hold, days_lack, fits_start}
use Rattle.expr_eval.proofs.truths.+truths.Goals as goal

pub holds-returns-in-Acc : goal.holds-returns-in-Acc
holds-returns-in-Acc t c =
    let d = declarations c.args.decls.now in
    let g = bindings c.args.names.now in
    let env = c.args.fixings.now in
    let f = c.args.day in
    let fits : FitsSigned w64 c.days_earlier-from.result = search rules in
    let of_day : FitsSigned w64 f = c.ranges.day in
    let from_is : c.days_earlier-from.result ≡ f -ℤ pos c.in-Acc.days = simp to_z-of_z at c.days_earlier-from.ensures.day in
    let same : truth_found (run_of d (Acc (expression c.in-Acc.body.value) c.in-Acc.days (expression c.in-Acc.first.value)) g env f) ≡ truth_found (run_of d (expression c.args.test.now) g env f) =
    ap (λ (x : Expr). truth_found (run_of d (expression x) g env f)) (sym c.in-Acc.is) in
    acc_holds d c.in-Acc.body.value c.deref-in-Acc.result.now c.in-Acc.first.value c.deref-in-Acc-2.result.now c.in-Acc.days g env f c.days_earlier-from.result _ c.holds_after.result c.deref-in-Acc.ensures c.deref-in-Acc-2.ensures (to_z-of_z w64 c.days_earlier-from.result fits) from_is c.holds_after.ensures
    ∙ same

pub holds_after-returns-in_err-start : goal.holds_after-returns-in_err-start
holds_after-returns-in_err-start t c = grind (arith, days_tried-err)

pub holds_after-returns-in-Some : goal.holds_after-returns-in-Some
holds_after-returns-in-Some t c =
    after_start c.args.decls.now c.args.body.now c.args.first.now c.in_ok-start.start c.args.names.now c.args.fixings.now c.args.from (to_z w64 (of_z w64 c.args.from)) c.args.days c.in-Some.found (to_z-of_z w64 c.args.from c.ranges.from) (sym c.evaluate.ensures ∙ c.in_ok-start.was) c.in-Some.ensures

pub holds_after-verdict_after-requires : goal.holds_after-verdict_after-requires
holds_after-verdict_after-requires t c =
    let body : is_verdict (expression c.args.body.now) ≡ true = search rules in
    let fits = fits_start c.args.decls.now c.args.body.now c.args.first.now c.in_ok-start.start c.args.names.now c.args.fixings.now c.args.from (to_z w64 (of_z w64 c.args.from)) c.args.days (to_z-of_z w64 c.args.from c.ranges.from) (sym c.evaluate.ensures ∙ c.in_ok-start.was) c.requires.days in
    search rules

pub holds_after-returns : goal.holds_after-returns
holds_after-returns t c =
    after_start c.args.decls.now c.args.body.now c.args.first.now c.in_ok-start.start c.args.names.now c.args.fixings.now c.args.from (to_z w64 (of_z w64 c.args.from)) c.args.days c.verdict_after.result (to_z-of_z w64 c.args.from c.ranges.from) (sym c.evaluate.ensures ∙ c.in_ok-start.was) c.verdict_after.ensures

pub verdict_after-returns-in_err-holds : goal.verdict_after-returns-in_err-holds
verdict_after-returns-in_err-holds t c =
    let d = declarations c.args.decls.now in
    let e = expression c.args.body.now in
    let g = bindings c.args.names.now in
    let F = c.args.fixings.now in
    let fits : FitsSigned w64 c.days_later-day.result = search rules in
    let day : to_z w64 (of_z w64 c.days_later-day.result) ≡ to_z w64 (of_z w64 c.args.from) +ℤ pos (c.loop-i.i + 1) =
    to_z-of_z w64 c.days_later-day.result fits ∙ c.days_later-day.ensures.day in
    let lacks : truth_found (days_run d e g F c.args.from c.args.days (Ok c.args.start)) ≡ Err c.in_err-holds.field-0.0 =
    sym (ap (λ (f : ℤ). truth_found (days_run d e g F f c.args.days (Ok c.args.start))) (to_z-of_z w64 c.args.from c.ranges.from))
    ∙ ap truth_found (days_lack d e c.args.start g F (to_z w64 (of_z w64 c.args.from)) c.loop-i.i c.loop-i.value (to_z w64 (of_z w64 c.days_later-day.result)) c.holds_then.result c.loop-i.invariant day c.holds_then.ensures c.args.days c.in_err-holds.field-0.0 c.loop-i-test.true c.in_err-holds.was) in
    grind (arith, lacks, c.from_residual.ensures)

pub verdict_after-loop-i-preserved : goal.verdict_after-loop-i-preserved
verdict_after-loop-i-preserved t c =
    let d = declarations c.args.decls.now in
    let e = expression c.args.body.now in
    let g = bindings c.args.names.now in
    let F = c.args.fixings.now in
    let fits : FitsSigned w64 c.days_later-day.result = search rules in
    let day : to_z w64 (of_z w64 c.days_later-day.result) ≡ to_z w64 (of_z w64 c.args.from) +ℤ pos (c.loop-i.i + 1) =
    to_z-of_z w64 c.days_later-day.result fits ∙ c.days_later-day.ensures.day in
    days_hold d e c.args.start g F (to_z w64 (of_z w64 c.args.from)) c.loop-i.i c.loop-i.value (to_z w64 (of_z w64 c.days_later-day.result)) c.holds_then.result c.loop-i.invariant day c.holds_then.ensures c.in_ok-holds.holds c.requires.body c.in_ok-holds.was
