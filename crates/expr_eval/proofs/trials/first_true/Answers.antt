use Rattle.std.proofs.Common.{◌≡◌, ◌+ℤ◌, pos, ℤ, true, w64, to_z, of_z, ap, sym, subst, ◌∙◌}
use Rattle.std.proofs.lemmas.Int.{to_z-of_z}
use Rattle.term_model.specs.Declarations.{declarations}
use Rattle.term_model.specs.declared.terms.Expr.{Expr}
use Rattle.term_model.specs.Terms.{Expression, expression, Cmp}
use Rattle.expr_eval.specs.Rooms.{kinds_of}
use Rattle.expr_eval.specs.Runs.{run_of, untyped}
use Rattle.expr_eval.specs.Fits.{Fits, IsDay}
use Rattle.expr_eval.specs.Evaluable.{MayEvaluate}
use Rattle.expr_eval.specs.Comparing.{SidesFit, truth_found}
use Rattle.expr_eval.specs.Stops.{first_stop, wanted_of}
use Rattle.expr_eval.specs.Trials.{first_tried}
use Rattle.expr_eval.proofs.EvaluableFacts.{may_run}
use Rattle.expr_eval.proofs.CompareFacts.{compares_on_day, compares_too, sides_fit}
use Rattle.expr_eval.proofs.TrialFacts.{day_tried, first_day, first_is, stop_is}
use Rattle.expr_eval.proofs.trials.first_true.Goals as goal

pub factors_between-by-requires : goal.factors_between-by-requires
factors_between-by-requires c =
    let d = declarations c.args.decls.now in
    let bs = c.args.scratch.now.entries in
    let a = c.in-Cmp.left.value in
    let b = c.in-Cmp.right.value in
    let h : MayEvaluate d (Cmp c.in-Cmp.op (expression a) (expression b)) bs = subst (λ (x : Expr). MayEvaluate d (expression x) bs) c.in-Cmp.is c.requires.place in
    subst (λ (x : Expr). SidesFit d (expression x) (expression c.deref-in-Cmp.result.now) (kinds_of bs)) (sym c.deref.ensures)
    (subst (λ (y : Expr). SidesFit d (expression a) (expression y) (kinds_of bs)) (sym c.deref-in-Cmp.ensures)
    (sides_fit d c.in-Cmp.op (expression a) (expression b) bs c.args.decls.now.labels_in h))

pub first_day_compared-requires-clause-fits : goal.first_day_compared-requires-clause-fits
first_day_compared-requires-clause-fits c = λ i l.
    let d = declarations c.args.decls.now in
    let bs = c.args.scratch.now.entries in
    let F = c.args.fixings.now in
    let a = c.in-Cmp.left.value in
    let b = c.in-Cmp.right.value in
    let h : MayEvaluate d (Cmp c.in-Cmp.op (expression a) (expression b)) bs = subst (λ (x : Expr). MayEvaluate d (expression x) bs) c.in-Cmp.is c.requires.place in
    let near = day_tried c.args.from i c.args.days c.requires.day l c.ranges.days.fits in
    compares_too d (expression a) (expression b) (expression c.deref-in-Cmp-2.result.now) (expression c.deref-in-Cmp-3.result.now) (expression c.deref.result.now) (expression c.deref-in-Cmp.result.now) c.factors_between-by.result bs F (c.args.from +ℤ pos i) (to_z w64 (of_z w64 c.args.from) +ℤ pos i)
    (ap (λ (x : Expr). expression x) c.deref-in-Cmp-2.ensures)
    (ap (λ (x : Expr). expression x) c.deref-in-Cmp-3.ensures)
    (ap (λ (x : Expr). expression x) c.deref.ensures)
    (ap (λ (x : Expr). expression x) c.deref-in-Cmp.ensures)
    c.factors_between-by.ensures
    (ap (λ (f : ℤ). f +ℤ pos i) (to_z-of_z w64 c.args.from c.ranges.from))
    (compares_on_day d c.in-Cmp.op (expression a) (expression b) bs F (c.args.from +ℤ pos i) c.args.decls.now.labels_in c.requires.admitted near h)

pub first_held-requires : goal.first_held-requires
first_held-requires c =
    let d = declarations c.args.decls.now in
    let bs = c.args.scratch.now.entries in
    let F = c.args.fixings.now in
    let same = to_z-of_z w64 c.args.from c.ranges.from in
    record {
      first = subst (λ (f : ℤ). IsDay f) (sym same) (first_day c.args.from c.requires.day);
      fits = λ i l.
          subst (λ (f : ℤ). Fits d (expression c.args.test.now) bs F (f +ℤ pos i)) (sym same)
          (may_run d (expression c.args.test.now) bs F (c.args.from +ℤ pos i) c.args.decls.now.labels_in c.requires.admitted (day_tried c.args.from i c.args.days c.requires.day l c.ranges.days.fits) c.requires.place);
    }

pub returns-in-Cmp-clause-answer : goal.returns-in-Cmp-clause-answer
returns-in-Cmp-clause-answer c =
    let d = declarations c.args.decls.now in
    let bs = c.args.scratch.now.entries in
    let F = c.args.fixings.now in
    let e = Cmp c.in-Cmp.op (expression c.in-Cmp.left.value) (expression c.in-Cmp.right.value) in
    let is : e ≡ expression c.args.test.now = ap (λ (x : Expr). expression x) (sym c.in-Cmp.is) in
    let sides : Cmp c.in-Cmp.op (expression c.deref-in-Cmp-2.result.now) (expression c.deref-in-Cmp-3.result.now) ≡ e =
    ap (λ (x : Expr). Cmp c.in-Cmp.op (expression x) (expression c.deref-in-Cmp-3.result.now)) c.deref-in-Cmp-2.ensures
    ∙ ap (λ (x : Expr). Cmp c.in-Cmp.op (expression c.in-Cmp.left.value) (expression x)) c.deref-in-Cmp-3.ensures in
    let days : c.first_day_compared.result ≡ first_tried c.args.days (λ i. untyped (run_of d (expression c.args.test.now) bs F (c.args.from +ℤ pos i))) =
    c.first_day_compared.ensures.days
    ∙ ap (λ (x : Expression). first_tried c.args.days (λ i. untyped (run_of d x bs F (to_z w64 (of_z w64 c.args.from) +ℤ pos i)))) (sides ∙ is)
    ∙ ap (λ (f : ℤ). first_tried c.args.days (λ i. untyped (run_of d (expression c.args.test.now) bs F (f +ℤ pos i)))) (to_z-of_z w64 c.args.from c.ranges.from) in
    first_is d (expression c.args.test.now) bs F c.args.from c.args.days c.first_day_compared.result c.args.decls.now.labels_in c.requires.place days

pub returns-in_default-test : goal.returns-in_default-test
returns-in_default-test c =
    let d = declarations c.args.decls.now in
    let bs = c.args.scratch.now.entries in
    let F = c.args.fixings.now in
    let days : c.first_held.result ≡ first_tried c.args.days (λ i. untyped (run_of d (expression c.args.test.now) bs F (c.args.from +ℤ pos i))) =
    c.first_held.ensures.days
    ∙ ap (λ (f : ℤ). first_tried c.args.days (λ i. untyped (run_of d (expression c.args.test.now) bs F (f +ℤ pos i)))) (to_z-of_z w64 c.args.from c.ranges.from) in
    record {
      answer = first_is d (expression c.args.test.now) bs F c.args.from c.args.days c.first_held.result c.args.decls.now.labels_in c.requires.place days;
      found = c.first_held.ensures.found;
    }

pub returns-in-Some : goal.returns-in-Some
returns-in-Some c =
    let d = declarations c.args.decls.now in
    let bs = c.args.scratch.now.entries in
    let F = c.args.fixings.now in
    let e = expression c.args.test.now in
    let stops : c.in-Some.stop ≡ first_stop c.args.days (λ i. wanted_of true (truth_found (run_of d e bs F (c.args.from +ℤ pos i)))) =
    subst (λ (f : ℤ). c.in-Some.stop ≡ first_stop c.args.days (λ i. wanted_of true (truth_found (run_of d e bs F (f +ℤ pos i))))) (to_z-of_z w64 c.args.from c.ranges.from) c.in-Some.ensures in
    let both = stop_is d e bs F c.args.from c.args.days c.in-Some.stop c.day.result c.args.decls.now.labels_in c.requires.place stops c.day.ensures in
    record { answer = both.0; found = both.1 }
