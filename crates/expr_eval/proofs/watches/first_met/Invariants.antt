use Rattle.std.proofs.Common.{◌≡◌, ◌-◌, ◌≤◌, ◌+ℤ◌, pos}
use Rattle.expr_eval.specs.declared.stops.Stop.TheVariants.{Never}
use Rattle.expr_eval.specs.Stops.{first_stop}
use Rattle.expr_eval.specs.Watching.{met_on}
use Rattle.expr_eval.proofs.watches.first_met.Given as goal

abbrev pub invariant-loop-done : goal.invariant-loop-done
invariant-loop-done l =
    (l.done ≤ l.days) × (first_stop l.done (λ i. met_on l.fn.watch l.fn.fixings (l.fn.first +ℤ pos i)) ≡ Never)

abbrev pub decreases-loop-done : goal.decreases-loop-done
decreases-loop-done l = l.days - l.done
