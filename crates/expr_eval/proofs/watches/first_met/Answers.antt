use Rattle.std.proofs.Common.{rules, ◌≡◌, ◌∙◌, ◌+◌, ◌+ℤ◌, pos, false, true, ℤ, w64, FitsSigned, to_z, of_z, refl, ap, sym, subst, arith}
use Rattle.std.proofs.lemmas.Int.{to_z-of_z}
use Rattle.expr_eval.specs.declared.stops.Stop.{Stop}
use Rattle.expr_eval.specs.declared.stops.Stop.TheVariants.{Never}
use Rattle.expr_eval.specs.Stops.{first_stop, goes_on}
use Rattle.expr_eval.specs.Watching.{met_on}
use Rattle.expr_eval.proofs.StopFacts.{AtMost, at_most, counts, found_later, more_days, never_later, none_met}
use Rattle.expr_eval.proofs.watches.first_met.Goals as goal

pub loop-done-preserved-then-is_passed : goal.loop-done-preserved-then-is_passed
loop-done-preserved-then-is_passed c =
    let w = c.args.watch in
    let F = c.args.fixings.now in
    let first = to_z w64 (of_z w64 c.args.first) in
    let t = to_z w64 (of_z w64 c.days_later-day.result) in
    let done = c.loop-done.done in
    let fits : FitsSigned w64 c.days_later-day.result = search rules in
    let day : t ≡ first +ℤ pos done = to_z-of_z w64 c.days_later-day.result fits ∙ c.days_later-day.ensures.day in
    let none : first_stop 128 (λ i. met_on w F (t +ℤ pos i)) ≡ Never = none_met 128 (λ i. met_on w F (t +ℤ pos i)) (c.if-is_passed.ensures refl F c.run_of-run.ensures.days) in
    let later = more_days (met_on w F) first t done 128 (done + 128) Never (sym c.loop-done.invariant.1) day (sym none) refl in
    (omega arith, never_later done 128 (λ i. met_on w F (first +ℤ pos i)) Never later refl)

pub counted_from-requires : goal.counted_from-requires
counted_from-requires c =
    let n = c.min-count.result in
    let some : AtMost c.in_ok-stop.stop n = subst (λ (s : Stop). AtMost s n) (sym c.in_ok-stop.ensures) (at_most n _) in
    counts c.in_ok-stop.stop n c.loop-done.done some (omega arith)

pub returns-then-not-goes_on : goal.returns-then-not-goes_on
returns-then-not-goes_on c =
    let w = c.args.watch in
    let F = c.args.fixings.now in
    let first = c.args.first in
    let t = to_z w64 (of_z w64 c.days_later-day.result) in
    let done = c.loop-done.done in
    let n = c.min-count.result in
    let same = to_z-of_z w64 first c.ranges.first in
    let fits : FitsSigned w64 c.days_later-day.result = search rules in
    let day : t ≡ first +ℤ pos done = to_z-of_z w64 c.days_later-day.result fits ∙ c.days_later-day.ensures.day ∙ ap (λ (f : ℤ). f +ℤ pos done) same in
    let before : first_stop done (λ i. met_on w F (first +ℤ pos i)) ≡ Never = subst (λ (f : ℤ). first_stop done (λ i. met_on w F (f +ℤ pos i)) ≡ Never) same c.loop-done.invariant.1 in
    let later = more_days (met_on w F) first t done n (done + n) c.in_ok-stop.stop (sym before) day c.in_ok-stop.ensures refl in
    let stopped : goes_on c.in_ok-stop.stop ≡ false = search rules in
    c.counted_from.ensures ∙ found_later c.args.days done n (λ i. met_on w F (first +ℤ pos i)) c.in_ok-stop.stop later stopped (omega arith)

pub loop-done-preserved : goal.loop-done-preserved
loop-done-preserved c =
    let w = c.args.watch in
    let F = c.args.fixings.now in
    let first = to_z w64 (of_z w64 c.args.first) in
    let t = to_z w64 (of_z w64 c.days_later-day.result) in
    let done = c.loop-done.done in
    let n = c.min-count.result in
    let fits : FitsSigned w64 c.days_later-day.result = search rules in
    let day : t ≡ first +ℤ pos done = to_z-of_z w64 c.days_later-day.result fits ∙ c.days_later-day.ensures.day in
    let later = more_days (met_on w F) first t done n (done + n) c.in_ok-stop.stop (sym c.loop-done.invariant.1) day c.in_ok-stop.ensures refl in
    let goes : goes_on c.in_ok-stop.stop ≡ true = search rules in
    (omega arith, never_later done n (λ i. met_on w F (first +ℤ pos i)) c.in_ok-stop.stop later goes)
