use Rattle.std.proofs.Common.{rules, ◌≡◌, ◌+ℤ◌, pos, ℤ, w64, FitsSigned, to_z, of_z, ap, subst, ◌∙◌}
use Rattle.std.proofs.lemmas.Int.{to_z-of_z}
use Rattle.expr_eval.specs.declared.stops.Stop.TheVariants.{Never}
use Rattle.expr_eval.specs.Stops.{first_stop}
use Rattle.expr_eval.specs.Watching.{met_on}
use Rattle.expr_eval.proofs.WatchFacts.{watch_lacks, watch_meets}
use Rattle.expr_eval.proofs.watches.first_near.Goals as goal

pub returns-then-met : goal.returns-then-met
returns-then-met c =
    let w = c.args.watch in
    let F = c.args.fixings.now in
    let same = to_z-of_z w64 c.args.first c.ranges.first in
    let before : first_stop c.loop-i.i (λ k. met_on w F (c.args.first +ℤ pos k)) ≡ Never =
    subst (λ (f : ℤ). first_stop c.loop-i.i (λ k. met_on w F (f +ℤ pos k)) ≡ Never) same c.loop-i.invariant in
    let fits : FitsSigned w64 c.days_later-day.result = search rules in
    let day : to_z w64 (of_z w64 c.days_later-day.result) ≡ c.args.first +ℤ pos c.loop-i.i =
    to_z-of_z w64 c.days_later-day.result fits ∙ c.days_later-day.ensures.day ∙ ap (λ (f : ℤ). f +ℤ pos c.loop-i.i) same in
    watch_meets w F c.args.first c.args.days c.loop-i.i (to_z w64 (of_z w64 c.days_later-day.result)) c.in_ok-met.field-0 c.loop-i-test.true before day c.in_ok-met.ensures c.in-Ok.met c.in-Ok.is c.if-met.true

pub returns-in-Err : goal.returns-in-Err
returns-in-Err c =
    let w = c.args.watch in
    let F = c.args.fixings.now in
    let same = to_z-of_z w64 c.args.first c.ranges.first in
    let before : first_stop c.loop-i.i (λ k. met_on w F (c.args.first +ℤ pos k)) ≡ Never =
    subst (λ (f : ℤ). first_stop c.loop-i.i (λ k. met_on w F (f +ℤ pos k)) ≡ Never) same c.loop-i.invariant in
    let fits : FitsSigned w64 c.days_later-day.result = search rules in
    let day : to_z w64 (of_z w64 c.days_later-day.result) ≡ c.args.first +ℤ pos c.loop-i.i =
    to_z-of_z w64 c.days_later-day.result fits ∙ c.days_later-day.ensures.day ∙ ap (λ (f : ℤ). f +ℤ pos c.loop-i.i) same in
    watch_lacks w F c.args.first c.args.days c.loop-i.i (to_z w64 (of_z w64 c.days_later-day.result)) c.in_ok-met.field-0 c.loop-i-test.true before day c.in_ok-met.ensures c.in-Err.missing c.in-Err.is
