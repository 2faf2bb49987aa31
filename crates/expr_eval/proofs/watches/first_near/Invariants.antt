use Rattle.std.proofs.Common.{◌≡◌, ◌+ℤ◌, pos}
use Rattle.expr_eval.specs.declared.stops.Stop.TheVariants.{Never}
use Rattle.expr_eval.specs.Stops.{first_stop}
use Rattle.expr_eval.specs.Watching.{met_on}
use Rattle.expr_eval.proofs.watches.first_near.Given as goal

abbrev pub invariant-loop-i : goal.invariant-loop-i
invariant-loop-i l = first_stop l.i (λ i. met_on l.fn.watch l.fn.fixings (l.fn.first +ℤ pos i)) ≡ Never
