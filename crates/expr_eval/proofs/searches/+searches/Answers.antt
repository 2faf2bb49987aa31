use Rattle.std.proofs.Common.{rules, arith, ◌≡◌, ◌≤◌, ◌+◌, ◌^◌, ◌+ℤ◌, pos, ℤ, unsigned_abs, true, false, not, refl, ap, sym, subst, ◌∙◌, w64, FitsSigned, to_z, of_z}
use Rattle.std.proofs.lemmas.Int.{to_z-of_z}
use Rattle.term_model.specs.declared.terms.Expr.{Expr}
use Rattle.term_model.specs.Terms.{expression, Not}
use Rattle.term_model.specs.Reads.{decides}
use Rattle.expr_eval.specs.declared.stops.Stop.{Stop}
use Rattle.expr_eval.specs.declared.stops.Stop.TheVariants.{Never}
use Rattle.expr_eval.specs.Stops.{days_before, goes_on}
use Rattle.expr_eval.specs.Searches.{IsStop, IsStopOfEither}
use Rattle.expr_eval.proofs.StopFacts.{AtMost, at_most, counts, days_at_most}
use Rattle.expr_eval.proofs.WatchFacts.{stop_too}
use Rattle.expr_eval.proofs.SearchFacts.{joined_found, left_is, opposite_stops, right_is, still_goes_on}
use Rattle.expr_eval.proofs.searches.+searches.Goals as goal

pub search-returns-in-Not : goal.search-returns-in-Not
search-returns-in-Not t c =
    let e = expression c.deref-in-Not.result.now in
    let is : expression c.args.test.now ≡ Not e = ap (λ (x : Expr). expression x) c.in-Not.is ∙ ap (λ (x : Expr). Not (expression x)) (sym c.deref-in-Not.ensures) in
    stop_too c.search.result _ (λ s. IsStop c.args.decls.now (expression c.args.test.now) c.args.wanted c.args.names.now c.args.fixings.now c.args.from c.args.days s)
    (λ s stops. opposite_stops c.args.decls.now (expression c.args.test.now) e c.args.wanted (not c.args.wanted) c.args.names.now c.args.fixings.now c.args.from (to_z w64 (of_z w64 c.args.from)) c.args.days s is refl (to_z-of_z w64 c.args.from c.ranges.from) stops)
    c.search.ensures

pub search_either-search-requires-2 : goal.search_either-search-requires-2
search_either-search-requires-2 t c =
    let few : days_before c.in_ok-stop.stop c.args.days ≤ c.args.days =
    days_at_most c.in_ok-stop.stop c.args.days (subst (λ (s : Stop). AtMost s c.args.days) (sym c.in_ok-stop.ensures) (at_most c.args.days _)) in
    let before = c.days_before-before.ensures in
    let near : unsigned_abs c.args.from + c.days_before-before.result ≤ 2 ^ 61 = omega (arith, c.requires, few, before) in
    (search rules, subst (λ (f : ℤ). unsigned_abs f + c.days_before-before.result ≤ 2 ^ 61) (sym (to_z-of_z w64 c.args.from c.ranges.from)) near)

pub search_either-returns-then-goes_on : goal.search_either-returns-then-goes_on
search_either-returns-then-goes_on t c =
    let same = to_z-of_z w64 c.args.from c.ranges.from in
    left_is c.args.decls.now c.args.left.now c.args.right.now c.args.wanted c.args.names.now c.args.fixings.now c.args.from _ _ c.args.days c.days_before-before.result c.in_ok-stop.stop c.in_ok-next.next same same c.in_ok-stop.ensures c.days_before-before.ensures c.in_ok-next.ensures (sym c.goes_on.ensures ∙ c.if-goes_on.true)

pub search_either-returns-else-goes_on : goal.search_either-returns-else-goes_on
search_either-returns-else-goes_on t c =
    let same = to_z-of_z w64 c.args.from c.ranges.from in
    right_is c.args.decls.now c.args.left.now c.args.right.now c.args.wanted c.args.names.now c.args.fixings.now c.args.from _ _ c.args.days c.days_before-before.result c.in_ok-stop.stop c.in_ok-next.next same same c.in_ok-stop.ensures c.days_before-before.ensures c.in_ok-next.ensures (sym c.goes_on.ensures ∙ c.if-goes_on.false)

pub search_joined-counted_from-requires : goal.search_joined-counted_from-requires
search_joined-counted_from-requires t c =
    let some : AtMost c.in_ok-stop.stop c.min-count.result = subst (λ (s : Stop). AtMost s c.min-count.result) (sym c.in_ok-stop.ensures) (at_most c.min-count.result _) in
    counts c.in_ok-stop.stop c.min-count.result c.loop-done.done some (omega arith)

pub search_joined-returns-then-not-goes_on : goal.search_joined-returns-then-not-goes_on
search_joined-returns-then-not-goes_on t c =
    let same = to_z-of_z w64 c.args.from c.ranges.from in
    let fits : FitsSigned w64 c.days_later-first.result = search rules in
    let day : to_z w64 (of_z w64 c.days_later-first.result) ≡ c.args.from +ℤ pos c.loop-done.done =
    to_z-of_z w64 c.days_later-first.result fits ∙ c.days_later-first.ensures.day ∙ ap (λ (f : ℤ). f +ℤ pos c.loop-done.done) same in
    let before : IsStopOfEither c.args.decls.now c.args.left.now c.args.right.now c.args.wanted c.args.names.now c.args.fixings.now c.args.from c.loop-done.done Never =
    subst (λ (f : ℤ). IsStopOfEither c.args.decls.now c.args.left.now c.args.right.now c.args.wanted c.args.names.now c.args.fixings.now f c.loop-done.done Never) same c.loop-done.invariant.1 in
    let decided : decides c.args.op c.args.wanted ≡ true = search rules in
    let stopped : goes_on c.in_ok-stop.stop ≡ false = search rules in
    joined_found c.args.decls.now c.args.left.now c.args.right.now c.args.wanted c.args.names.now c.args.fixings.now c.args.from (to_z w64 (of_z w64 c.days_later-first.result)) c.loop-done.done c.min-count.result c.in_ok-stop.stop before day c.in_ok-stop.ensures
    c.args.op c.args.days c.counted_from.result decided stopped (omega arith) c.counted_from.ensures

pub search_joined-loop-done-preserved : goal.search_joined-loop-done-preserved
search_joined-loop-done-preserved t c =
    let fits : FitsSigned w64 c.days_later-first.result = search rules in
    let day : to_z w64 (of_z w64 c.days_later-first.result) ≡ to_z w64 (of_z w64 c.args.from) +ℤ pos c.loop-done.done =
    to_z-of_z w64 c.days_later-first.result fits ∙ c.days_later-first.ensures.day in
    let goes : goes_on c.in_ok-stop.stop ≡ true = search rules in (
      omega arith,
      still_goes_on c.args.decls.now c.args.left.now c.args.right.now c.args.wanted c.args.names.now c.args.fixings.now (to_z w64 (of_z w64 c.args.from)) (to_z w64 (of_z w64 c.days_later-first.result)) c.loop-done.done c.min-count.result c.in_ok-stop.stop c.loop-done.invariant.1 day c.in_ok-stop.ensures goes (c.loop-done.done + c.min-count.result) refl,
    )
