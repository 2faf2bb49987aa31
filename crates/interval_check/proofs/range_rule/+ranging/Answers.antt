use Rattle.std.proofs.Common.{rules, refl, ap, sym, ◌∙◌, ◌≡◌, arith, Ok}
use Rattle.std.proofs.lemmas.Result.{err_from_is_err_and}
use Rattle.term_model.specs.Declarations.{declarations}
use Rattle.term_model.specs.Terms.{expression}
use Rattle.interval_check.specs.declared.ranges.Range.{Range as Found}
use Rattle.interval_check.specs.Ranges.{range}
use Rattle.interval_check.specs.RangeScopes.{ranges_in}
use Rattle.interval_check.specs.RangeTrials.{day_tried, range_tried}
use Rattle.interval_check.proofs.Accumulation.{days_stop, days_stay}
use Rattle.interval_check.proofs.BehindFacts.{range_behind}
use Rattle.interval_check.proofs.SteadyFacts.{first_stops, told_days}
use Rattle.interval_check.proofs.RangeKinds.{operands_scaled, body_scaled}
use Rattle.interval_check.proofs.range_rule.+ranging.Goals as goal

pub accumulated-returns-in_err-next-clause-range : goal.accumulated-returns-in_err-next-clause-range
accumulated-returns-in_err-next-clause-range t c =
    let p = err_from_is_err_and c.from_residual-in_err-next.result c.from_residual-in_err-next.ensures.1 in
    let step = day_tried (λ g. range_tried (declarations c.args.decls.now) (expression c.args.body.now) g) (ranges_in c.args.scope.now) in
    rw (p.1, p.2) (sym (days_stop c.args.days c.loop-day._day step (range c.args.start) (range c.loop-day.so_far) _ (omega arith) c.loop-day.invariant.days (sym c.in_err-next.ensures.range)))

pub accumulated-returns-then-is_same-clause-range : goal.accumulated-returns-then-is_same-clause-range
accumulated-returns-then-is_same-clause-range t c =
    let step = day_tried (λ g. range_tried (declarations c.args.decls.now) (expression c.args.body.now) g) (ranges_in c.args.scope.now) in
    let same : step (range c.loop-day.so_far) ≡ Ok (range c.loop-day.so_far) =
    sym c.in_ok-next.ensures.range ∙ ap (λ (x : Found). Ok (range x)) (c.if-is_same.ensures.0 refl) in
    sym (days_stay c.args.days c.loop-day._day step (range c.args.start) (range c.loop-day.so_far) (omega arith) c.loop-day.invariant.days same)

pub added_up-returns-in_err-next-clause-range : goal.added_up-returns-in_err-next-clause-range
added_up-returns-in_err-next-clause-range t c =
    let p = err_from_is_err_and c.from_residual.result c.from_residual.ensures.1 in
    rw (p.1, p.2) (sym (first_stops (declarations c.args.decls.now) (expression c.args.body.now) (ranges_in c.args.scope.now) (range c.args.start) c.args.days _ (omega arith) (sym c.in_err-next.ensures.range)))

pub added_up-returns-clause-range : goal.added_up-returns-clause-range
added_up-returns-clause-range t c =
    told_days (declarations c.args.decls.now) (expression c.args.body.now) (ranges_in c.args.scope.now) (range c.args.start) (range c.in_ok-next.next) c.args.days c.after_days.result (search rules) c.requires.start (sym c.in_ok-next.ensures.range) c.after_days.ensures

pub range_of_num-combined-requires-clause-scale : goal.range_of_num-combined-requires-clause-scale
range_of_num-combined-requires-clause-scale t c =
    operands_scaled (declarations c.args.decls.now) c.args.op (expression c.args.left.now) (expression c.args.right.now) (ranges_in c.args.scope.now) (range c.in_ok-both.both.left) (range c.in_ok-both.both.right) c.in_ok-both.ensures.ranges c.requires.scaled

pub range_of_acc-accumulated-requires : goal.range_of_acc-accumulated-requires
range_of_acc-accumulated-requires t c = (search rules, (search rules, (body_scaled (declarations c.args.decls.now) (expression c.args.body.now) c.args.days _ (expression c.args.first.now) (ranges_in c.args.scope.now) (range c.in_ok-start.start) (range_behind _ c.range_of.result c.in_ok-start.start _ c.in_ok-start.ensures c.range_of.ensures.range) c.requires.scaled, search rules)))
